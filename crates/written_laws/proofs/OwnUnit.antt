-- A unit of a well graph: what it names is there, so it is spelled as a tree.
use Rattle.std.proofs.Common.{◌≡◌, ◌<◌, ◌≤◌, ◌+◌, ◌==◌, ◌||◌, ◌^◌, ℕ, zero, suc, Bool, true, false, List, [], ◌∷◌, length, map, slice_get, if◌then◌else◌, Option, Some, refl, sym, ap, subst, ◌∙◌, arith}
use Rattle.std.specs.List.{All, enumerate_from, flat_map, list_any, sum_by}
use Rattle.std.specs.Option.{option_map, option_map_or}
use Rattle.std.specs.Str.{bytes_eq}
use Rattle.std.proofs.lemmas.List.Elements.{All-head, All-tail}
use Rattle.std.proofs.lemmas.List.Sums.{sum_by-cons, sum_by-take-le}
use Rattle.std.proofs.lemmas.Option.{get_or_from_slice_get, same_Some, slice_get_within}
use Rattle.std.proofs.lemmas.Slice.Eq.{bytes_eq-Decides}
use Rattle.ds_base.specs.Texts.{place_of}
use Rattle.dwarf_types.specs.declared.graph.Graph.{Graph}
use Rattle.dwarf_types.specs.declared.graph.Node.{Node}
use Rattle.dwarf_types.specs.declared.graph.OutAttr.{OutAttr}
use Rattle.dwarf_types.specs.declared.graph.OutUnit.{OutUnit}
use Rattle.dwarf_types.specs.declared.graph.Target.{Target}
use Rattle.dwarf_types.specs.Encode.{info_section, line_section}
use Rattle.dwarf_types.specs.Entries.{entries_of, entry_len, entry_of, node_place, unit_bytes, unit_len}
use Rattle.dwarf_types.specs.Layout.{line_text_place, lines_place, lists_place, places_of, table_place, target_place, texts_of, texts_of_node, unit_start}
use Rattle.dwarf_types.specs.LineTable.{lines_bytes}
use Rattle.dwarf_types.specs.Well.{IsWell, IsWellUnit}
use Rattle.dwarf_types.specs.WellNodes.{has_lines, is_lines}
use Rattle.dwarf_types.specs.WellValues.{IsTarget}
use Rattle.dwarf_types.proofs.Lengths.{length-unit}
use Rattle.written_laws.specs.ReadEntries.{AllThere, IsPreorder}
use Rattle.written_laws.specs.ReadUnits.{IsReadable, sections_of}
use Rattle.written_laws.proofs.Cuts.{any_flat, ends_within, numbered_first, without_numbers}
use Rattle.written_laws.proofs.Firsts.{once_any}
use Rattle.written_laws.proofs.ListPlaces.{locations_fit, ranges_fit}
use Rattle.written_laws.proofs.OwnValues.{AllNamed, AllShort, AreKnown, IsRoomy, LinesNamed, nodes_there}
use Rattle.written_laws.proofs.Roots.{StandUnder, first_named, some_lines}

-- ---- lists

pub all_at : {X : Type 0} (P : X → Type 0) (xs : List X) (i : ℕ) (x : X) → All P xs → slice_get xs i ≡ Some x → P x
all_at P xs i x all at = subst P (get_or_from_slice_get xs i x x at) (all i x (slice_get_within xs i x at))

pub part_of_sum : {X : Type 0} (f : X → ℕ) (xs : List X) (i : ℕ) (x : X) → slice_get xs i ≡ Some x → f x ≤ sum_by f xs
part_of_sum f [] i x at = absurd (omega (arith, slice_get_within [] i x at))
part_of_sum f (y ∷ xs) zero x at = omega (arith, ap f (same_Some y x at), sum_by-cons f y xs)
part_of_sum f (y ∷ xs) (suc i) x at = omega (arith, part_of_sum f xs i x at, sum_by-cons f y xs)

-- a text that is among others has a place there
pub placed_in : (texts : List (List ℕ)) (text : List ℕ) → list_any (λ x. bytes_eq x text) texts ≡ true → (n : ℕ) × (place_of texts text ≡ Some n)
placed_in [] text e = absurd cc
placed_in (x ∷ texts) text e = by (bytes_eq x text) refl e (placed_in texts text)
  where
    by : (b : Bool) → bytes_eq x text ≡ b → (b || list_any (λ y. bytes_eq y text) texts) ≡ true → (list_any (λ y. bytes_eq y text) texts ≡ true → (n : ℕ) × (place_of texts text ≡ Some n)) → (n : ℕ) × (place_of (x ∷ texts) text ≡ Some n)
    by true is e more = (0, ap (λ (b : Bool). if b then Some 0 else option_map (λ place. length x + 1 + place) (place_of texts text)) is)
    by false is e more =
        let r = more e in
        (length x + 1 + r.0, ap (λ (b : Bool). if b then Some 0 else option_map (λ place. length x + 1 + place) (place_of texts text)) is ∙ ap (option_map (λ place. length x + 1 + place)) r.1)

-- ---- the units of a graph

module _ (graph : Graph) (well : IsWell graph) (readable : IsReadable graph) where
  pub is_well : (u : ℕ) (unit : OutUnit) → slice_get graph.units u ≡ Some unit → IsWellUnit (IsTarget graph) unit
  is_well u unit at = all_at (IsWellUnit (IsTarget graph)) graph.units u unit well.units at

  pub few_nodes : (u : ℕ) (unit : OutUnit) → slice_get graph.units u ≡ Some unit → length unit.nodes ≤ 2 ^ 24
  few_nodes u unit at = omega (arith, part_of_sum (λ (x : OutUnit). length x.nodes) graph.units u unit at, readable.few)

  pub in_info : (u : ℕ) (unit : OutUnit) → slice_get graph.units u ≡ Some unit → unit_start graph u + unit_len u unit ≤ length (info_section graph)
  in_info u unit at =
      ends_within (λ (n : ℕ × OutUnit). unit_bytes (places_of graph n.0 n.1) (lists_place graph n.0 n.1) (table_place graph n.0) n.1) (λ (n : ℕ × OutUnit). unit_len n.0 n.1)
      (λ (n : ℕ × OutUnit). length-unit (places_of graph n.0 n.1) (lists_place graph n.0 n.1) (table_place graph n.0) n.1) (enumerate_from 0 graph.units) u (u, unit) (numbered_first graph.units u unit at)

  target_small : (target : Target) → IsTarget graph target → unit_start graph target.unit + target_place graph target < 2 ^ 32
  target_small target is =
      let place : target_place graph target ≡ node_place target.unit is.unit target.node = ap (λ (o : Option OutUnit). option_map_or (λ unit. node_place target.unit unit target.node) o 0) is.stands in
      omega (arith, place, sum_by-take-le entry_len (entries_of target.unit is.unit) target.node, in_info target.unit is.unit is.stands, readable.info)

  module _ (u : ℕ) (unit : OutUnit) (at : slice_get graph.units u ≡ Some unit) where
    abbrev w : IsWellUnit (IsTarget graph) unit
    w = is_well u unit at

    roomy : IsRoomy graph u unit
    roomy = record { texts = readable.texts; ranges = ranges_by (unit.version == 5); locations = locations_by (unit.version == 5); targets = target_small }
      where
        ranges_by : (b : Bool) → length (if b then (sections_of graph).rnglists else (sections_of graph).ranges) < 2 ^ 32
        ranges_by true = readable.rnglists
        ranges_by false = readable.ranges

        locations_by : (b : Bool) → length (if b then (sections_of graph).loclists else (sections_of graph).loc) < 2 ^ 32
        locations_by true = readable.loclists
        locations_by false = readable.loc

    known : AreKnown graph u unit (flat_map texts_of_node unit.nodes)
    known text e =
        let all = any_flat (λ (x : List ℕ). bytes_eq x text) (λ (x : OutUnit). flat_map texts_of_node x.nodes) graph.units u unit at e in
        placed_in (texts_of graph) text (once_any bytes_eq (λ (a b : List ℕ) e. (bytes_eq-Decides a b).0 e) text (flat_map (λ (x : OutUnit). flat_map texts_of_node x.nodes) graph.units) all)

    -- ---- line tables

    lines_within : lines_place graph u + length (lines_bytes (line_text_place graph) unit) ≤ length (line_section graph)
    lines_within =
        let ends = ends_within (λ (n : ℕ × OutUnit). lines_bytes (line_text_place graph) n.1) (λ (n : ℕ × OutUnit). length (lines_bytes (line_text_place graph) n.1)) (λ (n : ℕ × OutUnit). refl)
        (enumerate_from 0 graph.units) u (u, unit) (numbered_first graph.units u unit at) in
        omega (arith, ends, ap length (without_numbers (lines_bytes (line_text_place graph)) 0 graph.units))

    none_there : (attrs : List OutAttr) → list_any (λ a. is_lines a.value) attrs ≡ false → LinesNamed graph u unit attrs
    none_there [] e = tt
    none_there (a ∷ attrs) e =
        let h = or_none (is_lines a.value) (list_any (λ (b : OutAttr). is_lines b.value) attrs) e in
        ((λ is. absurd (let f : true ≡ false = sym is ∙ h.0 in cc)), none_there attrs h.1)
      where
        or_none : (a b : Bool) → (a || b) ≡ false → (a ≡ false) × (b ≡ false)
        or_none true b e = absurd cc
        or_none false b e = (refl, e)

    some_there : 0 < length (lines_bytes (line_text_place graph) unit) → (attrs : List OutAttr) → StandUnder attrs → LinesNamed graph u unit attrs
    some_there some [] h = tt
    some_there some (a ∷ attrs) h = ((λ is. (h.0 is, omega (arith, some, lines_within, readable.line), omega (arith, some, lines_within))), some_there some attrs h.1)

    root_named : LinesNamed graph u unit w.root.attrs
    root_named = by (has_lines w.root) refl
      where
        by : (b : Bool) → has_lines w.root ≡ b → LinesNamed graph u unit w.root.attrs
        by true has = some_there (some_lines (line_text_place graph) unit w.root w.is_root.lines has) w.root.attrs (first_named w.root.attrs w.is_root.stmt_list)
        by false has = none_there w.root.attrs has

    below_named : (ns : List Node) → All (λ node. has_lines node ≡ false) ns → AllNamed graph u unit ns
    below_named [] all = tt
    below_named (n ∷ ns) all = (none_there n.attrs (All-head (λ (m : Node). has_lines m ≡ false) n ns all), below_named ns (All-tail (λ (m : Node). has_lines m ≡ false) n ns all))

    all_named : AllNamed graph u unit unit.nodes
    all_named = subst (AllNamed graph u unit) (sym w.nodes) (root_named, below_named w.below w.no_lines)

    -- ---- lengths

    all_short : (ns : List Node) (k : ℕ) → sum_by entry_len (map (λ n. entry_of u unit.nodes n.0 n.1) (enumerate_from k ns)) < 2 ^ 28 → AllShort graph u unit ns
    all_short [] k lt = tt
    all_short (n ∷ ns) k lt =
        let sum = sum_by-cons entry_len (entry_of u unit.nodes k n) (map (λ m. entry_of u unit.nodes m.0 m.1) (enumerate_from (k + 1) ns)) in
        (omega (arith, lt, sum), all_short ns (k + 1) (omega (arith, lt, sum)))

    pub all_there : AllThere (places_of graph u unit) (sections_of graph) (lists_place graph u unit) unit.nodes
    all_there =
        nodes_there graph u unit roomy (lists_place graph u unit) unit.nodes w.each known (ranges_fit graph u unit at) (locations_fit graph u unit at)
        (all_short unit.nodes 0 (omega (arith, (readable.units u unit at).short))) all_named

    abbrev pub is_preorder : IsPreorder unit.nodes
    is_preorder = record {
      root = w.root;
      below = w.below;
      nodes_are = w.nodes;
      no_parent = w.is_root.parent;
      preorder = λ k node is.
          let next : k + 1 ≡ suc k = omega arith in
          w.preorder k node (sym (ap (λ (ns : List Node). slice_get ns (suc k)) w.nodes) ∙ ap (slice_get unit.nodes) (sym next) ∙ is);
    }
