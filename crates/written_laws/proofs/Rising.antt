-- Entries of all units stand each behind the one before, so a place is that of one entry.
use Rattle.std.proofs.Common.{◌≡◌, ◌<◌, ◌≤◌, ◌+◌, ◌==◌, ◌++◌, ℕ, zero, suc, Bool, List, [], ◌∷◌, length, map, take, cond, slice_get, Option, Some, refl, sym, ap, subst, ◌∙◌, arith}
use Rattle.std.specs.List.{enumerate_from, position_from, sum_by}
use Rattle.std.specs.Option.{option_map_or}
use Rattle.std.proofs.lemmas.Bool.{eq-eqb, ne_eqb}
use Rattle.std.proofs.lemmas.Iterator.Adapters.{position_from-zero}
use Rattle.std.proofs.lemmas.List.{length-map, map-append}
use Rattle.std.proofs.lemmas.List.Sums.{sum_by-cons, sum_by_more}
use Rattle.std.proofs.lemmas.Option.{get_or_from_slice_get, same_Some, slice_get_within}
use Rattle.ds_base.specs.Leb.{uleb_len_of}
use Rattle.ds_base.proofs.LebLengths.{some_digits}
use Rattle.dwarf_types.specs.declared.entry.RawEntry.{RawEntry}
use Rattle.dwarf_types.specs.declared.graph.Graph.{Graph}
use Rattle.dwarf_types.specs.declared.graph.Node.{Node}
use Rattle.dwarf_types.specs.declared.graph.OutUnit.{OutUnit}
use Rattle.dwarf_types.specs.declared.graph.Target.{Target}
use Rattle.dwarf_types.specs.Entries.{behind_node, entries_of, entry_len, entry_of as out_entry, header_len, lists_ended, node_place, unit_len}
use Rattle.dwarf_types.specs.Layout.{lists_place, places_of, target_place, unit_start}
use Rattle.dwarf_types.specs.Places.{ListPlaces, Places}
use Rattle.dwarf_types.specs.WellValues.{IsTarget}
use Rattle.unit_tree.specs.Spelling.{Node as TreeNode}
use Rattle.written_laws.specs.LedBack.{entry_at, first_entry}
use Rattle.written_laws.specs.ReadEntries.{code_of, head_bytes, made_from}
use Rattle.written_laws.specs.ReadUnits.{entries_read, made_of, numbered_from}
use Rattle.written_laws.proofs.Cuts.{numbered_first}
use Rattle.written_laws.proofs.OwnPlaces.{head_len, length-made}

-- ---- numbers that rise

-- each is greater than those before it, and none is below a bound
abbrev pub Rise : ℕ → List ℕ → Type 0
Rise from [] = Unit {0}
Rise from (p ∷ ps) = (from ≤ p) × Rise (p + 1) ps

rise_weaker : (a b : ℕ) (ps : List ℕ) → a ≤ b → Rise b ps → Rise a ps
rise_weaker a b [] le h = tt
rise_weaker a b (p ∷ ps) le h = (omega (arith, le, h.0), h.1)

not_below : (from : ℕ) (ps : List ℕ) (i p : ℕ) → Rise from ps → slice_get ps i ≡ Some p → from ≤ p
not_below from [] i p h at = absurd (omega (arith, slice_get_within [] i p at))
not_below from (q ∷ ps) zero p h at = omega (arith, h.0, same_Some q p at)
not_below from (q ∷ ps) (suc i) p h at = omega (arith, h.0, not_below (q + 1) ps i p h.1 at)

-- so one of them stands where it is found
pub found_at : (k from : ℕ) (ps : List ℕ) (i p : ℕ) → Rise from ps → slice_get ps i ≡ Some p → position_from (λ q. q == p) k ps ≡ Some (k + i)
found_at k from [] i p h at = absurd (omega (arith, slice_get_within [] i p at))
found_at k from (q ∷ ps) zero p h at =
    let same : k ≡ k + zero = omega arith in
    ap (λ (b : Bool). cond b (Some k) (position_from (λ r. r == p) (k + 1) ps)) (eq-eqb q p (same_Some q p at)) ∙ ap (λ (n : ℕ). Some n) same
found_at k from (q ∷ ps) (suc i) p h at =
    let less = not_below (q + 1) ps i p h.1 at in
    let next : k + 1 + i ≡ k + suc i = omega arith in
    ap (λ (b : Bool). cond b (Some k) (position_from (λ r. r == p) (k + 1) ps)) (ne_eqb q p (λ e. absurd (omega (arith, e, less)))) ∙ found_at (k + 1) (q + 1) ps i p h.1 at ∙ ap (λ (n : ℕ). Some n) next

pub position_mapped : {X : Type 0} (f : X → ℕ) (p k : ℕ) (xs : List X) → position_from (λ x. f x == p) k xs ≡ position_from (λ q. q == p) k (map f xs)
position_mapped f p k [] = refl
position_mapped f p k (x ∷ xs) = ap (λ (o : Option ℕ). cond (f x == p) (Some k) o) (position_mapped f p (k + 1) xs)

-- ---- those of a unit

some_len : (n : ℕ) → 0 < uleb_len_of n
some_len n = some_digits n

module _ (places : Places) (nodes : List Node) where
  abbrev pub places_made : List (Option ℕ × TreeNode) → List ℕ
  places_made es = map (λ e. e.1.place) es

  pub made_rise : (ns : List Node) (next : ListPlaces) (place k : ℕ) (rest : List ℕ) → Rise (place + sum_by entry_len (map (λ n. out_entry places.unit nodes n.0 n.1) (enumerate_from k ns))) rest
      → Rise place (places_made (made_from places nodes next place k ns) ++ rest)
  made_rise [] next place k rest h = rise_weaker place (place + 0) rest (omega arith) h
  made_rise (n ∷ ns) next place k rest h =
      let len = head_len places nodes next k n in
      let some : 0 < entry_len (out_entry places.unit nodes k n) = omega (arith, some_len (code_of places.unit nodes k n)) in
      let sum = sum_by-cons entry_len (out_entry places.unit nodes k n) (map (λ m. out_entry places.unit nodes m.0 m.1) (enumerate_from (k + 1) ns)) in
      let all : place + sum_by entry_len (map (λ m. out_entry places.unit nodes m.0 m.1) (enumerate_from k (n ∷ ns))) ≡ place + length (head_bytes places nodes next k n) + lists_ended nodes k + sum_by entry_len (map (λ m. out_entry places.unit nodes m.0 m.1) (enumerate_from (k + 1) ns)) = omega (arith, sum, len) in
      let r = made_rise ns (behind_node places.version next n) (place + length (head_bytes places nodes next k n) + lists_ended nodes k) (k + 1) rest (subst (λ (m : ℕ). Rise m rest) all h) in
      (omega arith, rise_weaker (place + 1) (place + length (head_bytes places nodes next k n) + lists_ended nodes k) (places_made (made_from places nodes (behind_node places.version next n) (place + length (head_bytes places nodes next k n) + lists_ended nodes k) (k + 1) ns) ++ rest) (omega (arith, some, len)) r)

  -- an entry stands where its node does
  pub made_at : (ns : List Node) (next : ListPlaces) (place k i : ℕ) (rest : List ℕ) → i < length ns
      → slice_get (places_made (made_from places nodes next place k ns) ++ rest) i ≡ Some (place + sum_by entry_len (take i (map (λ n. out_entry places.unit nodes n.0 n.1) (enumerate_from k ns))))
  made_at [] next place k i rest lt = absurd (omega (arith, lt))
  made_at (n ∷ ns) next place k zero rest lt = let same : place ≡ place + 0 = omega arith in ap (λ (p : ℕ). Some p) same
  made_at (n ∷ ns) next place k (suc i) rest lt =
      let len = head_len places nodes next k n in
      let sum = sum_by-cons entry_len (out_entry places.unit nodes k n) (take i (map (λ m. out_entry places.unit nodes m.0 m.1) (enumerate_from (k + 1) ns))) in
      let all : place + length (head_bytes places nodes next k n) + lists_ended nodes k + sum_by entry_len (take i (map (λ m. out_entry places.unit nodes m.0 m.1) (enumerate_from (k + 1) ns)))
      ≡ place + sum_by entry_len (take (suc i) (map (λ m. out_entry places.unit nodes m.0 m.1) (enumerate_from k (n ∷ ns)))) = omega (arith, sum, len) in
      made_at ns (behind_node places.version next n) (place + length (head_bytes places nodes next k n) + lists_ended nodes k) (k + 1) i rest (omega (arith, lt)) ∙ ap (λ (p : ℕ). Some p) all

-- ---- those of all units

module _ (graph : Graph) where
  abbrev all_places : ℕ → ℕ → List OutUnit → List ℕ
  all_places u first units = map (λ e. e.place) (entries_read graph u first units)

  places_numbered : (u first : ℕ) (made : List (Option ℕ × TreeNode)) → map (λ e. e.place) (numbered_from u first made) ≡ map (λ e. e.1.place) made
  places_numbered u first [] = refl
  places_numbered u first (e ∷ es) = ap (λ (ps : List ℕ). e.1.place ∷ ps) (places_numbered u first es)

  places_split : (u first : ℕ) (unit : OutUnit) (units : List OutUnit)
      → all_places u first (unit ∷ units) ≡ map (λ e. e.1.place) (made_of graph u unit) ++ all_places (u + 1) (first + length unit.nodes) units
  places_split u first unit units =
      map-append (λ (e : RawEntry). e.place) (numbered_from u first (made_of graph u unit)) (entries_read graph (u + 1) (first + length unit.nodes) units)
      ∙ ap (λ (ps : List ℕ). ps ++ all_places (u + 1) (first + length unit.nodes) units) (places_numbered u first (made_of graph u unit))

  behind_unit : (u : ℕ) (unit : OutUnit) → slice_get graph.units u ≡ Some unit → unit_start graph (u + 1) ≡ unit_start graph u + unit_len u unit
  behind_unit u unit at =
      let lt = slice_get_within (enumerate_from 0 graph.units) u (u, unit) (numbered_first graph.units u unit at) in
      sum_by_more (λ (n : ℕ × OutUnit). unit_len n.0 n.1) (enumerate_from 0 graph.units) u (u, unit) lt
      ∙ ap (λ (n : ℕ × OutUnit). unit_start graph u + unit_len n.0 n.1) (get_or_from_slice_get (enumerate_from 0 graph.units) u (u, unit) (u, unit) (numbered_first graph.units u unit at))

  first_at : (units : List OutUnit) (u : ℕ) → ((i : ℕ) → slice_get units i ≡ slice_get graph.units (u + i)) → (unit : OutUnit) → slice_get units 0 ≡ Some unit → slice_get graph.units u ≡ Some unit
  first_at units u same unit at = let here : u + 0 ≡ u = omega arith in ap (slice_get graph.units) (sym here) ∙ sym (same 0) ∙ at

  all_rise : (u first : ℕ) (units : List OutUnit) → ((i : ℕ) → slice_get units i ≡ slice_get graph.units (u + i)) → Rise (unit_start graph u) (all_places u first units)
  all_rise u first [] same = tt
  all_rise u first (unit ∷ units) same =
      let r = all_rise (u + 1) (first + length unit.nodes) units (λ i. let step : u + suc i ≡ u + 1 + i = omega arith in same (suc i) ∙ ap (slice_get graph.units) step) in
      let next : unit_start graph (u + 1) ≡ unit_start graph u + header_len unit.version + sum_by entry_len (entries_of u unit) = omega (arith, behind_unit u unit (first_at (unit ∷ units) u same unit refl)) in
      let own = made_rise (places_of graph u unit) unit.nodes unit.nodes (lists_place graph u unit) (unit_start graph u + header_len unit.version) 0 (all_places (u + 1) (first + length unit.nodes) units)
      (subst (λ (p : ℕ). Rise p (all_places (u + 1) (first + length unit.nodes) units)) next r) in
      subst (Rise (unit_start graph u)) (sym (places_split u first unit units))
      (rise_weaker (unit_start graph u) (unit_start graph u + header_len unit.version) (map (λ e. e.1.place) (made_of graph u unit) ++ all_places (u + 1) (first + length unit.nodes) units) (omega arith) own)

  past : (xs ys : List ℕ) (n i : ℕ) → n ≡ length xs → slice_get (xs ++ ys) (n + i) ≡ slice_get ys i
  past [] ys n i is = let same : n + i ≡ i = omega (arith, is) in ap (slice_get ys) same
  past (x ∷ xs) ys n i is =
      let same : n + i ≡ suc (length xs + i) = omega (arith, is) in
      ap (slice_get (x ∷ (xs ++ ys))) same ∙ past xs ys (length xs) i refl

  -- an entry of a unit, by its number
  stands_at : (u first : ℕ) (units : List OutUnit) (i : ℕ) (unit : OutUnit) (k : ℕ) → slice_get units i ≡ Some unit → k < length unit.nodes
      → slice_get (all_places u first units) (first_entry units i + k) ≡ Some (unit_start graph (u + i) + node_place (u + i) unit k)
  stands_at u first [] i unit k at lt = absurd (omega (arith, slice_get_within [] i unit at))
  stands_at u first (x ∷ units) zero unit k at lt =
      let same : unit ≡ x = sym (same_Some x unit at) in
      let here : u ≡ u + zero = omega arith in
      let number : 0 + k ≡ k = omega arith in
      let within : k < length x.nodes = omega (arith, lt, ap (λ (y : OutUnit). length y.nodes) same) in
      let own = made_at (places_of graph u x) x.nodes x.nodes (lists_place graph u x) (unit_start graph u + header_len x.version) 0 k (all_places (u + 1) (first + length x.nodes) units) within in
      let place : unit_start graph u + header_len x.version + sum_by entry_len (take k (entries_of u x)) ≡ unit_start graph u + node_place u x k = omega arith in
      ap (λ (n : ℕ). slice_get (all_places u first (x ∷ units)) n) number ∙ ap (λ (ps : List ℕ). slice_get ps k) (places_split u first x units) ∙ own ∙ ap (λ (p : ℕ). Some p) place
      ∙ ap (λ (y : OutUnit). Some (unit_start graph u + node_place u y k)) (sym same) ∙ ap (λ (v : ℕ). Some (unit_start graph v + node_place v unit k)) here
  stands_at u first (x ∷ units) (suc i) unit k at lt =
      let sum = sum_by-cons (λ (y : OutUnit). length y.nodes) x (take i units) in
      let number : first_entry (x ∷ units) (suc i) + k ≡ length x.nodes + (first_entry units i + k) = omega (arith, sum) in
      let len : length x.nodes ≡ length (map (λ (e : Option ℕ × TreeNode). e.1.place) (made_of graph u x)) =
      omega (arith, length-map (made_of graph u x) (λ (e : Option ℕ × TreeNode). e.1.place), length-made (places_of graph u x) x.nodes x.nodes (lists_place graph u x) (unit_start graph u + header_len x.version) 0) in
      let next : u + 1 + i ≡ u + suc i = omega arith in
      ap (λ (n : ℕ). slice_get (all_places u first (x ∷ units)) n) number ∙ ap (λ (ps : List ℕ). slice_get ps (length x.nodes + (first_entry units i + k))) (places_split u first x units)
      ∙ past (map (λ e. e.1.place) (made_of graph u x)) (all_places (u + 1) (first + length x.nodes) units) (length x.nodes) (first_entry units i + k) len
      ∙ stands_at (u + 1) (first + length x.nodes) units i unit k at lt ∙ ap (λ (v : ℕ). Some (unit_start graph v + node_place v unit k)) next

  -- the entry at the place of a target has the target's number
  pub led_back : (target : Target) → IsTarget graph target → entry_at (entries_read graph 0 0 graph.units) (unit_start graph target.unit + target_place graph target) ≡ Some (first_entry graph.units target.unit + target.node)
  led_back target is =
      let index : 0 + target.unit ≡ target.unit = omega arith in
      let place : node_place target.unit is.unit target.node ≡ target_place graph target = sym (ap (λ (o : Option OutUnit). option_map_or (λ unit. node_place target.unit unit target.node) o 0) is.stands) in
      let at = stands_at 0 0 graph.units target.unit is.unit target.node is.stands is.inside ∙ ap (λ (v : ℕ). Some (unit_start graph v + node_place v is.unit target.node)) index ∙ ap (λ (p : ℕ). Some (unit_start graph target.unit + p)) place in
      let rise = all_rise 0 0 graph.units (λ i. let same : i ≡ 0 + i = omega arith in ap (slice_get graph.units) same) in
      let counted : 0 + (first_entry graph.units target.unit + target.node) ≡ first_entry graph.units target.unit + target.node = omega arith in
      position_from-zero (λ (e : RawEntry). e.place == unit_start graph target.unit + target_place graph target) (entries_read graph 0 0 graph.units)
      ∙ position_mapped (λ (e : RawEntry). e.place) (unit_start graph target.unit + target_place graph target) 0 (entries_read graph 0 0 graph.units)
      ∙ found_at 0 (unit_start graph 0) (all_places 0 0 graph.units) (first_entry graph.units target.unit + target.node) (unit_start graph target.unit + target_place graph target) rise at
      ∙ ap (λ (n : ℕ). Some n) counted
