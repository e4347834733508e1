-- What drafts have of a section is what their graph has.
use Rattle.std.proofs.Common.{◌≡◌, ◌==◌, ℕ, ◌+◌, ◌<◌, ◌^◌, Bool, true, false, List, [], ◌∷◌, ◌++◌, length, slice_get, Option, Some, Ok, if◌then◌else◌, refl, sym, ap, ◌∙◌, append_assoc, arith, length-append}
use mathlib.Core.Path.{fun_ext}
use Rattle.std.specs.List.{enumerate_from, flat_map}
use Rattle.std.specs.Option.{option_map_or}
use Rattle.dwarf_types.specs.declared.graph.Graph.{Graph}
use Rattle.dwarf_types.specs.declared.graph.OutUnit.{OutUnit}
use Rattle.dwarf_types.specs.Abbreviations.{same_flag, table_bytes}
use Rattle.dwarf_types.specs.Encode.{all_ranges, unit_locations, unit_ranges}
use Rattle.dwarf_types.specs.Entries.{node_place}
use Rattle.dwarf_types.specs.Layout.{numbered_units, places_of, stands_in}
use Rattle.dwarf_types.specs.Places.{own_node}
use Rattle.unit_draft.specs.declared.unit.Draft.{Draft}
use Rattle.unit_draft.specs.Drafted.{AreDrafts, IsDraft}
use Rattle.layout.specs.Laid.{Laid, Measures, common_in}
use Rattle.layout.specs.Pass.{in_five, in_others}
use Rattle.layout.proofs.OfDrafts.{From, from_graph}
use Rattle.section_write.proofs.UnitByUnit.{without_numbers}
use Rattle.section_write.specs.Copied.{part_in}
use Rattle.layout.specs.declared.table.Common.{Common}
use Rattle.layout.specs.declared.table.Common.TheVariants as commons
use Rattle.layout.specs.declared.table.Piece.{Piece}
use Rattle.layout.specs.declared.table.Piece.TheVariants as pieces
use Rattle.layout.specs.declared.table.Content.TheVariants as contents
use Rattle.layout.specs.declared.table.Listed.{Listed}
use Rattle.layout.specs.declared.table.Listed.TheVariants as listed
use Rattle.layout.specs.Lengths.{lists_size, piece_in, start_in}
use Rattle.layout.proofs.Limits.{short_at}
use Rattle.layout.proofs.SectionLengths.{layout_sizes}
use Rattle.layout.specs.Sections.{common_bytes, pieces_bytes}

slice_get_seam : (xs : List OutUnit) (y : OutUnit) (ys : List OutUnit) → slice_get (xs ++ y ∷ ys) (length xs) ≡ Some y
slice_get_seam [] y ys = refl
slice_get_seam (x ∷ xs) y ys = slice_get_seam xs y ys

-- part by part, each of its unit in the graph
module _ (graph : Graph) (part : Draft → List ℕ) (of : ℕ → OutUnit → List ℕ) (same : (u : ℕ) (unit : OutUnit) (draft : Draft) → slice_get graph.units u ≡ Some unit → IsDraft u unit draft → part draft ≡ of u unit) where
  each_from : (n : ℕ) (front us : List OutUnit) (ds : List Draft) → graph.units ≡ front ++ us → length front ≡ n → From n us ds → flat_map part ds ≡ flat_map (λ m. of m.0 m.1) (enumerate_from n us)
  each_from n front [] [] whole len f = refl
  each_from n front [] (d ∷ ds) whole len f = absurd f
  each_from n front (u ∷ us) [] whole len f = absurd f
  each_from n front (u ∷ us) (d ∷ ds) whole len f =
      let at : slice_get graph.units n ≡ Some u = ap (λ (xs : List OutUnit). slice_get xs n) whole ∙ ap (slice_get (front ++ u ∷ us)) (sym len) ∙ slice_get_seam front u us in
      ap (λ (bytes : List ℕ). bytes ++ flat_map part ds) (same n u d at f.0)
      ∙ ap (λ (rest : List ℕ). of n u ++ rest) (each_from (n + 1) (front ++ u ∷ []) us ds (whole ∙ sym (append_assoc front (u ∷ []) us)) (omega (arith, len, length-append front (u ∷ []))) f.1)

  each_part : (drafts : List Draft) → AreDrafts graph drafts → flat_map part drafts ≡ flat_map (λ m. of m.0 m.1) (numbered_units graph)
  each_part drafts are = each_from 0 [] graph.units drafts refl refl (from_graph graph drafts are)

-- lists of version 5 stand in their own sections, all others in the others
others_kept : (five : Bool) (lists : List ℕ) → (if five then [] else lists) ≡ (if same_flag five false then lists else [])
others_kept true lists = refl
others_kept false lists = refl

five_kept : (five : Bool) (lists : List ℕ) → (if five then lists else []) ≡ (if same_flag five true then lists else [])
five_kept true lists = refl
five_kept false lists = refl

module _ (version : ℕ) (unit : OutUnit) (lists all : List ℕ) (versions : version ≡ unit.version) (same : lists ≡ all) where
  others_are : in_others version [] lists ≡ (if stands_in false unit then all else [])
  others_are = ap (λ (v : ℕ). in_others v [] lists) versions ∙ ap (in_others unit.version []) same ∙ others_kept (unit.version == 5) all

  five_are : in_five version [] lists ≡ (if stands_in true unit then all else [])
  five_are = ap (λ (v : ℕ). in_five v [] lists) versions ∙ ap (in_five unit.version []) same ∙ five_kept (unit.version == 5) all

module _ (graph : Graph) (layout : Laid) (measured : Measures graph (Ok layout)) where
  ranges_are : (five : Bool) → flat_map (λ d. if five then in_five d.version [] d.ranges else in_others d.version [] d.ranges) layout.drafts ≡ all_ranges five graph
  ranges_are true =
      each_part graph (part_in pieces.Rnglists) (λ u unit. if stands_in true unit then unit_ranges unit else []) (λ u unit d here is. five_are d.version unit d.ranges (unit_ranges unit) is.version is.ranges) layout.drafts measured.3
      ∙ without_numbers (λ unit. if stands_in true unit then unit_ranges unit else []) 0 graph.units
  ranges_are false =
      each_part graph (part_in pieces.Ranges) (λ u unit. if stands_in false unit then unit_ranges unit else []) (λ u unit d here is. others_are d.version unit d.ranges (unit_ranges unit) is.version is.ranges) layout.drafts measured.3
      ∙ without_numbers (λ unit. if stands_in false unit then unit_ranges unit else []) 0 graph.units

  -- the nodes that location lists name are the unit's own
  own : (n : ℕ) (u : OutUnit) → slice_get graph.units n ≡ Some u → node_place n u ≡ own_node (places_of graph n u)
  own n u at = sym (fun_ext (λ (k : ℕ). ap (λ (it : Option OutUnit). option_map_or (λ (v : OutUnit). node_place n v k) it 0) at))

  its_locations : (n : ℕ) (u : OutUnit) (d : Draft) → slice_get graph.units n ≡ Some u → IsDraft n u d → d.locations ≡ unit_locations (own_node (places_of graph n u)) u
  its_locations n u d at is = is.locations ∙ ap (λ (place : ℕ → ℕ). unit_locations place u) (own n u at)

  -- piece by piece
  pub pieces_are : (piece : Piece) → flat_map (part_in piece) layout.drafts ≡ pieces_bytes graph piece
  pieces_are pieces.Tables = each_part graph (part_in pieces.Tables) table_bytes (λ u unit d here is. is.table) layout.drafts measured.3
  pieces_are pieces.Ranges = ranges_are false
  pieces_are pieces.Rnglists = ranges_are true
  pieces_are pieces.Loc =
      each_part graph (part_in pieces.Loc) (λ u unit. if stands_in false unit then unit_locations (own_node (places_of graph u unit)) unit else [])
      (λ u unit d here is. others_are d.version unit d.locations (unit_locations (own_node (places_of graph u unit)) unit) is.version (its_locations u unit d here is)) layout.drafts measured.3
  pieces_are pieces.Loclists =
      each_part graph (part_in pieces.Loclists) (λ u unit. if stands_in true unit then unit_locations (own_node (places_of graph u unit)) unit else [])
      (λ u unit d here is. five_are d.version unit d.locations (unit_locations (own_node (places_of graph u unit)) unit) is.version (its_locations u unit d here is)) layout.drafts measured.3

  -- and what they have together
  pub common_are : (which : Common) → common_in layout which ≡ common_bytes graph which
  common_are commons.Texts = ap (λ (l : Laid). l.texts) measured.0
  common_are commons.LineTexts = ap (λ (l : Laid). l.line_texts) measured.0
  common_are commons.Aranges = ap (λ (l : Laid). l.aranges) measured.0
  common_are commons.Frames = ap (λ (l : Laid). l.frames) measured.0

  -- lists with their header have places of four bytes
  pub lists_small : (lists : Listed) → lists_size (start_in layout.ends (piece_in lists)) < 2 ^ 32
  lists_small listed.Ranges = let short = short_at graph 6 _ refl measured.2 in omega (arith, short, layout_sizes graph layout measured (contents.Lists listed.Ranges))
  lists_small listed.Locations = let short = short_at graph 8 _ refl measured.2 in omega (arith, short, layout_sizes graph layout measured (contents.Lists listed.Locations))
