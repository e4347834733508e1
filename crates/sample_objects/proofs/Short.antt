-- A unit of small nodes reaches no limit.
use Rattle.std.proofs.Common.{◌+◌, ◌≡◌, ◌==◌, ◌≤◌, ◌^◌, ◌-◌, ◌*◌, ℕ, Bool, true, false, List, [], ◌∷◌, ◌++◌, length, filter, map, Option, Some, None, nat_le, if◌then◌else◌, arith, refl, ap, ◌∙◌, append-nil, length-append}
use Rattle.std.specs.List.{AllByRecursion, find, flat_map}
use Rattle.std.specs.Option.{option_map, option_map_or}
use Rattle.std.specs.Str.{bytes_eq}
use Rattle.std.proofs.lemmas.Bool.{lt-leb}
use Rattle.ds_base.specs.declared.fault.Part.TheVariants as parts
use Rattle.ds_base.specs.FirstUse.{once}
use Rattle.ds_base.specs.Texts.{section_of}
use Rattle.dsym_write.specs.Bundle.{contents}
use Rattle.dwarf_types.specs.declared.graph.Graph.{Graph}
use Rattle.dwarf_types.specs.declared.graph.OutUnit.{OutUnit}
use Rattle.dwarf_types.specs.declared.graph.Written.{Written}
use Rattle.dwarf_types.specs.Abbreviations.{table_bytes}
use Rattle.dwarf_types.specs.Encode.{abbrev_section, aranges_section, encode, frame_section, has_bytes, info_section, line_section, line_str_section, loc_section, loclists_section, ranges_section, rnglists_section, str_section, unit_locations, unit_ranges}
use Rattle.dwarf_types.specs.Entries.{unit_bytes, unit_len}
use Rattle.dwarf_types.specs.declared.lines.OutLines.{OutLines}
use Rattle.dwarf_types.specs.Layout.{line_texts_of_unit, lists_place, places_of, stands_in, table_place, texts_of_node}
use Rattle.dwarf_types.specs.Lists.{behind_header}
use Rattle.dwarf_types.specs.Places.{own_node}
use Rattle.dwarf_types.proofs.Lengths.{length-unit}
use Rattle.layout.specs.declared.table.TheConstants.{SECTIONS}
use Rattle.layout.specs.Lengths.{long_section, long_unit}
use Rattle.layout.specs.Sections.{written_in}
use Rattle.sample_objects.specs.ObjectFile.{graph_of}
use Rattle.sample_objects.proofs.Modest.{AreModest, no_locations, no_ranges, strings_few, table_few, unit_few}

-- every section of a graph is short
pub record AreShort (graph : Graph) : Type 0 where
  pub tables : length (abbrev_section graph) ≤ 2 ^ 24
  pub info : length (info_section graph) ≤ 2 ^ 24
  pub texts : length (str_section graph) ≤ 2 ^ 24
  pub line : length (line_section graph) ≤ 2 ^ 24
  pub line_texts : length (line_str_section graph) ≤ 2 ^ 24
  pub ranges : length (ranges_section graph) ≤ 2 ^ 24
  pub rnglists : length (rnglists_section graph) ≤ 2 ^ 24
  pub loc : length (loc_section graph) ≤ 2 ^ 24
  pub loclists : length (loclists_section graph) ≤ 2 ^ 24
  pub aranges : length (aranges_section graph) ≤ 2 ^ 24
  pub frames : length (frame_section graph) ≤ 2 ^ 24

-- of each section written
abbrev AreFew : List Written → Type 0
AreFew ws = AllByRecursion (λ s. length s.bytes ≤ 2 ^ 24) ws

are_few : (graph : Graph) → AreShort graph → AreFew (map (written_in graph) SECTIONS)
are_few graph h = (h.tables, (h.info, (h.texts, (h.line, (h.line_texts, (h.ranges, (h.rnglists, (h.loc, (h.loclists, (h.aranges, (h.frames, tt)))))))))))

none_found : (ws : List Written) → AreFew ws → find (λ s. nat_le (2 ^ 32 - 1) (length s.bytes)) ws ≡ None
none_found [] few = refl
none_found (s ∷ ws) few = rw (lt-leb (2 ^ 32 - 1) (length s.bytes) (omega (arith, few.0))) (none_found ws few.1)

pub none_long : (graph : Graph) → AreShort graph → long_section graph ≡ None
none_long graph h =
    let texts : Written = record { part = parts.Str; bytes = str_section graph } in
    ap (λ (found : Option Written). option_map (λ s. s.part) found) (none_found (texts ∷ map (written_in graph) SECTIONS) (h.texts, are_few graph h))

fewer : (ws : List Written) → length (filter has_bytes ws) ≤ length ws
fewer [] = omega arith
fewer (s ∷ ws) = by (has_bytes s) (fewer ws)
  where
    by : (b : Bool) → length (filter has_bytes ws) ≤ length ws → length (if b then s ∷ filter has_bytes ws else filter has_bytes ws) ≤ length (s ∷ ws)
    by true h = omega (arith, h)
    by false h = omega (arith, h)

pub sections_few : (graph : Graph) → length (encode graph) ≤ 11
sections_few graph = fewer (map (written_in graph) SECTIONS)

kept_few : (ws : List Written) → AreFew ws → length (contents (filter has_bytes ws)) ≤ length ws * 2 ^ 24
kept_few [] few = omega arith
kept_few (s ∷ ws) few = by (has_bytes s) few.0 (kept_few ws few.1)
  where
    by : (b : Bool) → length s.bytes ≤ 2 ^ 24 → length (contents (filter has_bytes ws)) ≤ length ws * 2 ^ 24 → length (contents (if b then s ∷ filter has_bytes ws else filter has_bytes ws)) ≤ length (s ∷ ws) * 2 ^ 24
    by true one h = omega (arith, one, h, length-append s.bytes (contents (filter has_bytes ws)))
    by false one h = omega (arith, h)

pub contents_few : (graph : Graph) → AreShort graph → length (contents (encode graph)) ≤ 2 ^ 28
contents_few graph h =
    let few : length (contents (encode graph)) ≤ 11 * 2 ^ 24 = kept_few (map (written_in graph) SECTIONS) (are_few graph h) in
    omega (arith, few)

short : (n m most : ℕ) → n ≡ m → m ≤ most → most ≤ 2 ^ 24 → n ≤ 2 ^ 24
short n m most is few within = omega (arith, is, few, within)

none_short : (n : ℕ) → n ≡ 0 → n ≤ 2 ^ 24
none_short n none = omega (arith, none)

-- the lists of the one unit, which has none, and the names of its line table, which it has not
only_none : (b : Bool) (lists : List ℕ) → lists ≡ [] → (if b then lists else []) ++ [] ≡ []
only_none true lists e = append-nil lists ∙ e
only_none false lists e = refl

no_names : (five : Bool) (lines : Option OutLines) → lines ≡ None → (if five then option_map_or (λ it. it.dirs ++ map (λ file. file.name) it.files) lines [] else []) ≡ []
no_names true lines e = ap (λ (some : Option OutLines). option_map_or (λ it. it.dirs ++ map (λ file. file.name) it.files) some []) e
no_names false lines e = refl

module _ (unit : OutUnit) (few : length unit.nodes ≤ 2000) (small : AreModest unit.nodes) (no_lines : unit.lines ≡ None) (no_code : unit.ranges ≡ []) where
  abbrev graph : Graph
  graph = graph_of unit

  pub unit_short : long_unit graph ≡ None
  unit_short = ap (λ (b : Bool). option_map (λ (n : ℕ × OutUnit). n.0) (if b then Some (0, unit) else None)) (lt-leb (2 ^ 28) (unit_len 0 unit) (omega (arith, unit_few unit few small)))

  abbrev unit_text : List ℕ
  unit_text = unit_bytes (places_of graph 0 unit) (lists_place graph 0 unit) (table_place graph 0) unit

  no_unit_ranges : unit_ranges unit ≡ []
  no_unit_ranges = no_ranges unit.version unit.nodes small

  no_unit_locations : unit_locations (own_node (places_of graph 0 unit)) unit ≡ []
  no_unit_locations = no_locations unit.version (own_node (places_of graph 0 unit)) unit.nodes small

  pub all_short : AreShort graph
  all_short =
      record {
        tables = short _ (length (table_bytes 0 unit)) (2 ^ 20) (ap length (append-nil (table_bytes 0 unit))) (table_few unit few small) (omega arith);
        info = short _ (unit_len 0 unit) (2 ^ 23) (ap length (append-nil unit_text) ∙ length-unit (places_of graph 0 unit) (lists_place graph 0 unit) (table_place graph 0) unit) (unit_few unit few small) (omega arith);
        texts = short _ (length (section_of (once bytes_eq (flat_map texts_of_node unit.nodes)))) (2 ^ 20)
            (ap (λ (uses : List (List ℕ)). length (section_of (once bytes_eq uses))) (append-nil (flat_map texts_of_node unit.nodes))) (strings_few unit few small) (omega arith);
        line = rw no_lines (omega arith);
        line_texts = none_short _ (ap (λ (uses : List (List ℕ)). length (section_of (once bytes_eq uses))) (append-nil (line_texts_of_unit unit) ∙ no_names (unit.version == 5) unit.lines no_lines));
        ranges = none_short _ (ap length (only_none (stands_in false unit) (unit_ranges unit) no_unit_ranges));
        rnglists = none_short _ (ap (λ (lists : List ℕ). length (behind_header lists)) (only_none (stands_in true unit) (unit_ranges unit) no_unit_ranges));
        loc = none_short _ (ap length (only_none (stands_in false unit) (unit_locations (own_node (places_of graph 0 unit)) unit) no_unit_locations));
        loclists = none_short _ (ap (λ (lists : List ℕ). length (behind_header lists)) (only_none (stands_in true unit) (unit_locations (own_node (places_of graph 0 unit)) unit) no_unit_locations));
        aranges = rw no_code (omega arith);
        frames = omega arith;
      }
