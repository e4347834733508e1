-- How long the sections of a graph are.
use Rattle.std.proofs.Common.{◌≡◌, ◌==◌, ℕ, ◌+◌, Bool, true, false, List, [], ◌∷◌, ◌++◌, length, Ok, if◌then◌else◌, refl, sym, ap, ◌∙◌, arith, length-append}
use mathlib.Core.Path.{fun_ext}
use Rattle.std.specs.List.{enumerate_from, flat_map, sum_by}
use Rattle.std.proofs.lemmas.List.Concat.{length-flat_map}
use Rattle.std.proofs.lemmas.List.Sums.{sum_by-cons}
use Rattle.dwarf_types.specs.declared.graph.Graph.{Graph}
use Rattle.dwarf_types.specs.declared.graph.Node.{Node}
use Rattle.dwarf_types.specs.declared.graph.OutAttr.{OutAttr}
use Rattle.dwarf_types.specs.declared.graph.OutUnit.{OutUnit}
use Rattle.dwarf_types.specs.declared.graph.OutValue.{OutValue}
use Rattle.dwarf_types.specs.declared.graph.OutValue.TheVariants as values
use Rattle.dwarf_types.specs.Abbreviations.{table_bytes}
use Rattle.dwarf_types.specs.Encode.{abbrev_section, all_locations, all_ranges, aranges_section, frame_section, info_section, line_section, line_str_section, over_units, over_values, str_section, unit_locations, unit_ranges}
use Rattle.dwarf_types.specs.Entries.{node_locations_len, node_ranges_len, unit_bytes, unit_len}
use Rattle.dwarf_types.specs.Layout.{before_unit, line_text_place, lists_place, numbered_units, places_of, stands_in, table_place, unit_locations_len, unit_ranges_len}
use Rattle.dwarf_types.specs.LineTable.{lines_bytes}
use Rattle.dwarf_types.specs.Lists.{behind_header, lists_header, locations_bytes, locations_len, ranges_bytes, ranges_len}
use Rattle.dwarf_types.specs.Places.{own_node}
use Rattle.dwarf_types.proofs.Lengths.{length-location_list, length-range_list, length-unit}
use Rattle.layout.specs.declared.sizes.Sizes.{Sizes}
use Rattle.layout.specs.declared.starts.Starts.{Starts}
use Rattle.layout.specs.declared.table.Common.TheVariants as commons
use Rattle.layout.specs.declared.table.Content.{Content}
use Rattle.layout.specs.declared.table.Content.TheVariants as contents
use Rattle.layout.specs.declared.table.Piece.{Piece}
use Rattle.layout.specs.declared.table.Piece.TheVariants as pieces
use Rattle.layout.specs.Laid.{Laid, Measures, sizes_in}
use Rattle.layout.specs.Lengths.{lists_size, piece_in, size_in, start_in, starts_of}
use Rattle.layout.specs.Sections.{content_bytes, pieces_bytes}
use Rattle.layout.proofs.Numbered.{all_numbered}

-- ---- sums

over : {X : Type 0} (f : X → List ℕ) (len : X → ℕ) → ((x : X) → length (f x) ≡ len x) → (xs : List X) → length (flat_map f xs) ≡ sum_by len xs
over {X} f len each xs = length-flat_map f xs ∙ ap (λ (g : X → ℕ). sum_by g xs) (fun_ext each)

unnumbered : {X : Type 0} (len : X → ℕ) (n : ℕ) (xs : List X) → sum_by (λ m. len m.1) (enumerate_from n xs) ≡ sum_by len xs
unnumbered len n [] = refl
unnumbered {X} len n (x ∷ xs) = omega (arith, sum_by-cons (λ (m : ℕ × X). len m.1) (n, x) (enumerate_from (n + 1) xs), unnumbered len (n + 1) xs, sum_by-cons len x xs)

-- ---- values

ranges_each : (version : ℕ) (value : OutValue) → length (ranges_bytes version value) ≡ ranges_len version value
ranges_each version (values.Ranges spans) = length-range_list version spans
ranges_each version (values.Address n) = refl
ranges_each version (values.Text t) = refl
ranges_each version (values.Number f n) = refl
ranges_each version (values.Wide b) = refl
ranges_each version (values.Block f b) = refl
ranges_each version (values.Expr p) = refl
ranges_each version (values.Ref t) = refl
ranges_each version (values.Locations l) = refl
ranges_each version values.Lines = refl

locations_each : (version : ℕ) (place : ℕ → ℕ) (value : OutValue) → length (locations_bytes version place value) ≡ locations_len version value
locations_each version place (values.Locations items) = length-location_list version place items
locations_each version place (values.Address n) = refl
locations_each version place (values.Text t) = refl
locations_each version place (values.Number f n) = refl
locations_each version place (values.Wide b) = refl
locations_each version place (values.Block f b) = refl
locations_each version place (values.Expr p) = refl
locations_each version place (values.Ref t) = refl
locations_each version place (values.Ranges s) = refl
locations_each version place values.Lines = refl

over_values_len : (part : OutValue → List ℕ) (len : OutValue → ℕ) → ((value : OutValue) → length (part value) ≡ len value) → (unit : OutUnit)
    → length (over_values part unit) ≡ sum_by (λ node. sum_by (λ a. len a.value) node.attrs) unit.nodes
over_values_len part len each unit =
    over (λ (node : Node). flat_map (λ (a : OutAttr). part a.value) node.attrs) (λ (node : Node). sum_by (λ (a : OutAttr). len a.value) node.attrs)
    (λ (node : Node). over (λ (a : OutAttr). part a.value) (λ (a : OutAttr). len a.value) (λ (a : OutAttr). each a.value) node.attrs) unit.nodes

-- ---- lists

-- the lists of a unit, and what of them stands in some sections
pub unit_ranges_size : (unit : OutUnit) → length (unit_ranges unit) ≡ sum_by (node_ranges_len unit.version) unit.nodes
unit_ranges_size unit = over_values_len (ranges_bytes unit.version) (ranges_len unit.version) (ranges_each unit.version) unit

pub unit_locations_size : (place : ℕ → ℕ) (unit : OutUnit) → length (unit_locations place unit) ≡ sum_by (node_locations_len unit.version) unit.nodes
unit_locations_size place unit = over_values_len (locations_bytes unit.version place) (locations_len unit.version) (locations_each unit.version place) unit

chosen : (b : Bool) (lists : List ℕ) (n : ℕ) → length lists ≡ n → length (if b then lists else []) ≡ (if b then n else 0)
chosen true lists n e = e
chosen false lists n e = refl

-- the header counts where there are lists
pub behind_size : (lists : List ℕ) → lists_size (length lists) ≡ length (behind_header lists)
behind_size lists = by (length lists == 0)
  where
    by : (none : Bool) → (if none then 0 else 12 + length lists) ≡ length (if none then [] else lists_header (length lists) ++ lists)
    by true = refl
    by false = omega (arith, length-append (lists_header (length lists)) lists)

-- ---- sections

module _ (graph : Graph) where
  whole : (len : ℕ → OutUnit → ℕ) → before_unit graph len (length graph.units) ≡ sum_by (λ n. len n.0 n.1) (numbered_units graph)
  whole len = ap (sum_by (λ (n : ℕ × OutUnit). len n.0 n.1)) (all_numbered graph.units (length graph.units) (omega arith))

  numbered : (part : ℕ → OutUnit → List ℕ) (len : ℕ → OutUnit → ℕ) → ((u : ℕ) (unit : OutUnit) → length (part u unit) ≡ len u unit) → before_unit graph len (length graph.units) ≡ length (over_units graph part)
  numbered part len each =
      whole len ∙ sym (over (λ (n : ℕ × OutUnit). part n.0 n.1) (λ (n : ℕ × OutUnit). len n.0 n.1) (λ (n : ℕ × OutUnit). each n.0 n.1) (numbered_units graph))

  plain : (part : OutUnit → List ℕ) (len : OutUnit → ℕ) → ((unit : OutUnit) → length (part unit) ≡ len unit) → before_unit graph (λ u unit. len unit) (length graph.units) ≡ length (flat_map part graph.units)
  plain part len each = whole (λ u unit. len unit) ∙ unnumbered len 0 graph.units ∙ sym (over part len each graph.units)

  abbrev ends : Starts
  ends = starts_of graph (length graph.units)

  -- each section ends where the parts of the last unit do
  tables_end : ends.tables ≡ length (abbrev_section graph)
  tables_end = numbered table_bytes (λ u unit. length (table_bytes u unit)) (λ u unit. refl)

  pub info_end : ends.info ≡ length (info_section graph)
  info_end =
      numbered (λ u unit. unit_bytes (places_of graph u unit) (lists_place graph u unit) (table_place graph u) unit) unit_len
      (λ u unit. length-unit (places_of graph u unit) (lists_place graph u unit) (table_place graph u) unit)

  line_end : ends.line ≡ length (line_section graph)
  line_end = plain (lines_bytes (line_text_place graph)) (λ unit. length (lines_bytes (line_text_place graph) unit)) (λ unit. refl)

  all_ranges_end : (five : Bool) → before_unit graph (λ u unit. unit_ranges_len five unit) (length graph.units) ≡ length (all_ranges five graph)
  all_ranges_end five =
      plain (λ unit. if stands_in five unit then unit_ranges unit else []) (unit_ranges_len five) (λ unit. chosen (stands_in five unit) (unit_ranges unit) _ (unit_ranges_size unit))

  all_locations_end : (five : Bool) → before_unit graph (λ u unit. unit_locations_len five unit) (length graph.units) ≡ length (all_locations five graph)
  all_locations_end five =
      numbered (λ u unit. if stands_in five unit then unit_locations (own_node (places_of graph u unit)) unit else []) (λ u unit. unit_locations_len five unit)
      (λ u unit. chosen (stands_in five unit) (unit_locations (own_node (places_of graph u unit)) unit) _ (unit_locations_size (own_node (places_of graph u unit)) unit))

  pieces_end : (piece : Piece) → start_in ends piece ≡ length (pieces_bytes graph piece)
  pieces_end pieces.Tables = tables_end
  pieces_end pieces.Ranges = all_ranges_end false
  pieces_end pieces.Rnglists = all_ranges_end true
  pieces_end pieces.Loc = all_locations_end false
  pieces_end pieces.Loclists = all_locations_end true

  -- each section has the size that is told of it
  module _ (sizes : Sizes) (e : sizes.ends ≡ ends) (t : sizes.texts ≡ length (str_section graph)) (l : sizes.line_texts ≡ length (line_str_section graph)) (a : sizes.aranges ≡ length (aranges_section graph)) (f : sizes.frames ≡ length (frame_section graph)) where
    pub sizes_are : (content : Content) → size_in sizes content ≡ length (content_bytes graph content)
    sizes_are contents.Entries = ap (λ (s : Starts). s.info) e ∙ info_end
    sizes_are contents.Lines = ap (λ (s : Starts). s.line) e ∙ line_end
    sizes_are (contents.Pieces piece) = ap (λ (s : Starts). start_in s piece) e ∙ pieces_end piece
    sizes_are (contents.Lists lists) = ap (λ (s : Starts). lists_size (start_in s (piece_in lists))) e ∙ ap lists_size (pieces_end (piece_in lists)) ∙ behind_size (pieces_bytes graph (piece_in lists))
    sizes_are (contents.Common commons.Texts) = t
    sizes_are (contents.Common commons.LineTexts) = l
    sizes_are (contents.Common commons.Aranges) = a
    sizes_are (contents.Common commons.Frames) = f

-- those that a layout tells
pub layout_sizes : (graph : Graph) (layout : Laid) → Measures graph (Ok layout) → (content : Content) → size_in (sizes_in layout) content ≡ length (content_bytes graph content)
layout_sizes graph layout measured =
    sizes_are graph (sizes_in layout) (ap (λ (l : Laid). l.ends) measured.0) (ap (λ (l : Laid). length l.texts) measured.0) (ap (λ (l : Laid). length l.line_texts) measured.0)
    (ap (λ (l : Laid). length l.aranges) measured.0) (ap (λ (l : Laid). length l.frames) measured.0)
