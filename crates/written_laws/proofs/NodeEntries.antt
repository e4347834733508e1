-- Each node has the entry of its number.
use Rattle.std.proofs.Common.{◌≡◌, ◌+◌, ◌++◌, ℕ, zero, suc, List, [], ◌∷◌, length, map, take, slice_get, Option, Some, refl, sym, ap, subst, ◌∙◌, arith}
use Rattle.std.specs.List.{enumerate_from, sum_by}
use Rattle.std.specs.Option.{option_map}
use Rattle.std.proofs.lemmas.List.{length-map}
use Rattle.std.proofs.lemmas.List.Sums.{sum_by-cons}
use Rattle.std.proofs.lemmas.Option.{same_Some, slice_get_within}
use Rattle.ds_base.specs.Leb.{uleb}
use Rattle.dwarf_types.specs.declared.entry.RawEntry.{RawEntry}
use Rattle.dwarf_types.specs.declared.graph.Graph.{Graph}
use Rattle.dwarf_types.specs.declared.graph.Node.{Node}
use Rattle.dwarf_types.specs.declared.graph.OutUnit.{OutUnit}
use Rattle.dwarf_types.specs.Entries.{behind_node, entry_len, entry_of as out_entry, header_len, lists_ended, node_locations_len, node_ranges_len}
use Rattle.dwarf_types.specs.Layout.{lists_place, places_of, unit_start}
use Rattle.dwarf_types.specs.Places.{ListPlaces, Places}
use Rattle.unit_tree.specs.Spelling.{Node as TreeNode, entry_of}
use Rattle.written_laws.specs.LedBack.{IsNodeEntry, StandsFor, first_entry}
use Rattle.written_laws.specs.ReadEntries.{code_of, head_bytes, made, made_from}
use Rattle.written_laws.specs.ReadUnits.{entries_read, made_of, numbered_from}
use Rattle.written_laws.proofs.Cuts.{map_at}
use Rattle.written_laws.proofs.OwnPlaces.{head_len, length-made}

-- ---- lists one behind the other

past : {X : Type 0} (xs ys : List X) (n i : ℕ) → n ≡ length xs → slice_get (xs ++ ys) (n + i) ≡ slice_get ys i
past [] ys n i is = let same : n + i ≡ i = omega (arith, is) in ap (slice_get ys) same
past {X} (x ∷ xs) ys n i is =
    let same : n + i ≡ suc (length xs + i) = omega (arith, is) in
    ap (slice_get (x ∷ (xs ++ ys))) same ∙ past xs ys (length xs) i refl

before : {X : Type 0} (xs ys : List X) (i : ℕ) (x : X) → slice_get xs i ≡ Some x → slice_get (xs ++ ys) i ≡ Some x
before [] ys i x at = absurd (omega (arith, slice_get_within [] i x at))
before (y ∷ xs) ys zero x at = at
before (y ∷ xs) ys (suc i) x at = before xs ys i x at

-- ---- those of a unit

module _ (places : Places) (nodes : List Node) where
  record MadeAt (next : ListPlaces) (place k : ℕ) (ns : List Node) (i : ℕ) (node : Node) : Type 0 where
    lists : ListPlaces
    begin : ℕ
    is : slice_get (made_from places nodes next place k ns) i ≡ Some (node.parent, made places nodes lists begin (k + i) node)
    placed : begin ≡ place + sum_by entry_len (take i (map (λ n. out_entry places.unit nodes n.0 n.1) (enumerate_from k ns)))
    ranges : lists.ranges ≡ next.ranges + sum_by (node_ranges_len places.version) (take i ns)
    locations : lists.locations ≡ next.locations + sum_by (node_locations_len places.version) (take i ns)

  made_there : (ns : List Node) (next : ListPlaces) (place k i : ℕ) (node : Node) → slice_get ns i ≡ Some node → MadeAt next place k ns i node
  made_there [] next place k i node at = absurd (omega (arith, slice_get_within [] i node at))
  made_there (n ∷ ns) next place k zero node at =
      let here : k ≡ k + zero = omega arith in
      record {
        lists = next;
        begin = place;
        is = ap (λ (m : Node). Some (m.parent, made places nodes next place k m)) (same_Some n node at) ∙ ap (λ (j : ℕ). Some (node.parent, made places nodes next place j node)) here;
        placed = omega arith;
        ranges = omega arith;
        locations = omega arith;
      }
  made_there (n ∷ ns) next place k (suc i) node at =
      let r = made_there ns (behind_node places.version next n) (place + length (head_bytes places nodes next k n) + lists_ended nodes k) (k + 1) i node at in
      let step : k + 1 + i ≡ k + suc i = omega arith in
      record {
        lists = r.lists;
        begin = r.begin;
        is = r.is ∙ ap (λ (j : ℕ). Some (node.parent, made places nodes r.lists r.begin j node)) step;
        placed = omega (arith, r.placed, head_len places nodes next k n, sum_by-cons entry_len (out_entry places.unit nodes k n) (take i (map (λ m. out_entry places.unit nodes m.0 m.1) (enumerate_from (k + 1) ns))));
        ranges = omega (arith, r.ranges, sum_by-cons (node_ranges_len places.version) n (take i ns));
        locations = omega (arith, r.locations, sum_by-cons (node_locations_len places.version) n (take i ns));
      }

-- ---- those of all units

module _ (graph : Graph) where
  record Stands (u first : ℕ) (units : List OutUnit) (i : ℕ) (unit : OutUnit) (k : ℕ) (node : Node) : Type 0 where
    entry : RawEntry
    at : slice_get (entries_read graph u first units) (first_entry units i + k) ≡ Some entry
    is : IsNodeEntry graph (u + i) (first + first_entry units i) unit k node entry

  own : (u first : ℕ) (unit : OutUnit) (k : ℕ) (node : Node) → slice_get unit.nodes k ≡ Some node → (e : RawEntry) × (slice_get (numbered_from u first (made_of graph u unit)) k ≡ Some e) × IsNodeEntry graph u first unit k node e
  own u first unit k node at =
      let r = made_there (places_of graph u unit) unit.nodes unit.nodes (lists_place graph u unit) (unit_start graph u + header_len unit.version) 0 k node at in
      let number : 0 + k ≡ k = omega arith in
      let m : TreeNode = made (places_of graph u unit) unit.nodes r.lists r.begin (0 + k) node in
      let values : ℕ = r.begin + length (uleb (code_of u unit.nodes (0 + k) node)) in (
        entry_of u (option_map (λ p. first + p) node.parent) m,
        map_at (λ (e : Option ℕ × TreeNode). entry_of u (option_map (λ p. first + p) e.0) e.1) (made_of graph u unit) k (node.parent, m) r.is,
        record { parent = refl; own = refl; place = omega (arith, r.placed); tag = refl; lists = r.lists; ranges = r.ranges; locations = r.locations; values = values; attrs = refl },
      )

  stands_for : (u first : ℕ) (units : List OutUnit) (i : ℕ) (unit : OutUnit) (k : ℕ) (node : Node) → slice_get units i ≡ Some unit → slice_get unit.nodes k ≡ Some node → Stands u first units i unit k node
  stands_for u first [] i unit k node at inside = absurd (omega (arith, slice_get_within [] i unit at))
  stands_for u first (x ∷ units) zero unit k node at inside =
      let same : unit ≡ x = sym (same_Some x unit at) in
      let w = own u first x k node (ap (λ (y : OutUnit). slice_get y.nodes k) (sym same) ∙ inside) in
      let number : k ≡ 0 + k = omega arith in
      let here : u ≡ u + zero = omega arith in
      let none : first ≡ first + 0 = omega arith in
      record {
        entry = w.0;
        at = ap (slice_get (entries_read graph u first (x ∷ units))) (sym number) ∙ before (numbered_from u first (made_of graph u x)) (entries_read graph (u + 1) (first + length x.nodes) units) k w.0 w.1;
        is = subst (λ (y : OutUnit). IsNodeEntry graph (u + zero) (first + 0) y k node w.0) (sym same)
            (subst (λ (v : ℕ). IsNodeEntry graph v (first + 0) x k node w.0) here (subst (λ (f : ℕ). IsNodeEntry graph u f x k node w.0) none w.2));
      }
  stands_for u first (x ∷ units) (suc i) unit k node at inside =
      let r = stands_for (u + 1) (first + length x.nodes) units i unit k node at inside in
      let sum = sum_by-cons (λ (y : OutUnit). length y.nodes) x (take i units) in
      let number : first_entry (x ∷ units) (suc i) + k ≡ length x.nodes + (first_entry units i + k) = omega (arith, sum) in
      let len : length x.nodes ≡ length (numbered_from u first (made_of graph u x)) =
      omega (arith, length-map (made_of graph u x) (λ (e : Option ℕ × TreeNode). entry_of u (option_map (λ p. first + p) e.0) e.1), length-made (places_of graph u x) x.nodes x.nodes (lists_place graph u x) (unit_start graph u + header_len x.version) 0) in
      let next : u + 1 + i ≡ u + suc i = omega arith in
      let from : first + length x.nodes + first_entry units i ≡ first + first_entry (x ∷ units) (suc i) = omega (arith, sum) in
      record {
        entry = r.entry;
        at = ap (slice_get (entries_read graph u first (x ∷ units))) number ∙ past (numbered_from u first (made_of graph u x)) (entries_read graph (u + 1) (first + length x.nodes) units) (length x.nodes) (first_entry units i + k) len ∙ r.at;
        is = subst (λ (f : ℕ). IsNodeEntry graph (u + suc i) f unit k node r.entry) from (subst (λ (v : ℕ). IsNodeEntry graph v (first + length x.nodes + first_entry units i) unit k node r.entry) next r.is);
      }

  pub node_stands : (u : ℕ) (unit : OutUnit) (k : ℕ) (node : Node) → slice_get graph.units u ≡ Some unit → slice_get unit.nodes k ≡ Some node → StandsFor graph (entries_read graph 0 0 graph.units) u unit k node
  node_stands u unit k node at inside =
      let r = stands_for 0 0 graph.units u unit k node at inside in
      let index : 0 + u ≡ u = omega arith in
      let from : 0 + first_entry graph.units u ≡ first_entry graph.units u = omega arith in
      record {
        entry = r.entry;
        stands = r.at;
        is = subst (λ (f : ℕ). IsNodeEntry graph u f unit k node r.entry) from (subst (λ (v : ℕ). IsNodeEntry graph v (0 + first_entry graph.units u) unit k node r.entry) index r.is);
      }
