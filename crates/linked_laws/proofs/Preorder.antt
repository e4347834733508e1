-- The nodes of a unit stand in preorder.
use Rattle.std.proofs.Common.{◌≡◌, ◌<◌, ◌≤◌, ◌+◌, ℕ, zero, suc, true, List, map, slice_get, Option, Some, None, inl, inr, refl, sym, ap, subst, ◌∙◌, arith}
use Rattle.std.specs.List.{AllPairs}
use Rattle.std.specs.Option.{option_and_then, option_map}
use Rattle.std.proofs.lemmas.Bool.{cases_lt, cases_order}
use Rattle.std.proofs.lemmas.Option.{get_or_from_slice_get, same_Some, slice_get-map, slice_get_within}
use Rattle.dwarf_types.specs.declared.entry.Entry.{Entry}
use Rattle.dwarf_types.specs.declared.entry.InUnit.{InUnit}
use Rattle.dwarf_types.specs.declared.graph.Node.{Node}
use Rattle.dwarf_types.specs.LinkedUnits.{Object, is_kept, kept_entries, node_number, parent_node}
use Rattle.dwarf_types.specs.Live.{Stands}
use Rattle.dwarf_types.specs.Sound.{IsParent, IsSound}
use Rattle.dwarf_types.specs.WellNodes.{IsPreorderParent}
use Rattle.dwarf_types.specs.WellNodes as nodes_of
use Rattle.linked_laws.specs.Spellable.{ArePreorder, IsUp}
use Rattle.linked_laws.proofs.Chains.{entry_of_unit, parent_above, parent_in_unit}
use Rattle.linked_laws.proofs.Written.{HasNode, node_of_entry, written_at, written_rise}

-- where numbers rise, each stands once
pub rise_read : {A : Type 0} (xs : List (ℕ × A)) → AllPairs (λ a b. a.0 < b.0) xs → (i j : ℕ) (x y : ℕ × A) → slice_get xs i ≡ Some x → slice_get xs j ≡ Some y → i < j → x.0 < y.0
rise_read xs rise i j x y at at' lt =
    let h = rise i j x lt (slice_get_within xs j y at') in
    omega (arith, h, ap (λ z. z.0) (get_or_from_slice_get xs i x x at), ap (λ z. z.0) (get_or_from_slice_get xs j y x at'))

pub number_once : {A : Type 0} (xs : List (ℕ × A)) → AllPairs (λ a b. a.0 < b.0) xs → (i j : ℕ) (x y : ℕ × A) → slice_get xs i ≡ Some x → slice_get xs j ≡ Some y → x.0 ≡ y.0 → i ≡ j
number_once xs rise i j x y at at' same = elim (cases_order i j) [
  | inl e ↦ e
  | inr w ↦ elim w [
    | inl lt ↦ absurd (omega (arith, rise_read xs rise i j x y at at' lt, same))
    | inr lt ↦ absurd (omega (arith, rise_read xs rise j i y x at' at lt, same))
  ]
]

-- and a smaller number stands before
number_before : {A : Type 0} (xs : List (ℕ × A)) → AllPairs (λ a b. a.0 < b.0) xs → (i j : ℕ) (x y : ℕ × A) → slice_get xs i ≡ Some x → slice_get xs j ≡ Some y → x.0 < y.0 → i < j
number_before xs rise i j x y at at' lt = elim (cases_lt i j) [
  | inl h ↦ h
  | inr le ↦ absurd (elim (cases_order i j) [
    | inl e ↦ (let same = same_Some x y (sym at ∙ ap (slice_get xs) e ∙ at') in omega (arith, lt, ap (λ z. z.0) same))
    | inr w ↦ elim w [
      | inl h ↦ omega (arith, h, le)
      | inr h ↦ omega (arith, lt, rise_read xs rise j i y x at' at h)
    ]
  ])
]

module _ (o : Object) (sound : IsSound o.seen) (parents : (k p : ℕ) (e : Entry) → is_kept o k ≡ true → Stands o.seen.entries k e → e.parent ≡ Some p → is_kept o p ≡ true) (order : ArePreorder o.seen.entries)
    (u : ℕ) (unit : InUnit) (is : slice_get o.seen.units u ≡ Some unit) (f : ℕ × Entry → Node) (parent_is : (x : ℕ × Entry) → (f x).parent ≡ parent_node o u x.1) where
  abbrev nodes : List Node
  nodes = map f (kept_entries o u)

  node_at : (n : ℕ) (x : ℕ × Entry) → slice_get (kept_entries o u) n ≡ Some x → slice_get nodes n ≡ Some (f x)
  node_at n x at = slice_get-map f (kept_entries o u) n ∙ ap (option_map f) at

  -- the parent of an entry that is written
  pub record HasParent (e : Entry) (p : ℕ) : Type 0 where
    pub entry : Entry
    pub stands : Stands o.seen.entries p entry
    pub unit_is : entry.unit ≡ u
    pub kept : is_kept o p ≡ true
    pub node : HasNode o u p entry

  has_parent : (k p : ℕ) (e : Entry) → Stands o.seen.entries k e → e.unit ≡ u → is_kept o k ≡ true → e.parent ≡ Some p → HasParent e p
  has_parent k p e at same kept parent =
      let lies = parent_in_unit o sound parents u unit k p e is at same parent in
      let it = entry_of_unit o sound parents u unit p is lies.0 in
      let p_kept = parents k p e kept at parent in
      record { entry = it.0; stands = it.1; unit_is = it.2; kept = p_kept; node = node_of_entry o u unit p it.0 sound is it.1 it.2 p_kept }

  -- a chain of entries is a chain of their nodes
  up_nodes : (n k a m : ℕ) (e : Entry) → Stands o.seen.entries k e → e.unit ≡ u → is_kept o k ≡ true → node_number o u k ≡ Some m → slice_get (kept_entries o u) m ≡ Some (k, e) → IsUp o.seen.entries n k a
      → (b : ℕ) × (node_number o u a ≡ Some b) × nodes_of.IsUp nodes n m b
  up_nodes zero k a m e at same kept number place up = (m, ap (node_number o u) up ∙ number, refl)
  up_nodes (suc n) k a m e at same kept number place up =
      let entry : up.0 ≡ e = same_Some up.0 e (sym up.2 ∙ at) in
      let parent : e.parent ≡ Some up.1 = ap (λ x. x.parent) (sym entry) ∙ up.3 in
      let p = has_parent k up.1 e at same kept parent in
      let rest = up_nodes n up.1 a p.node.number p.entry p.stands p.unit_is p.kept p.node.is p.node.at up.4 in
      (rest.0, rest.1, (f (k, e), p.node.number, node_at m (k, e) place, parent_is (k, e) ∙ ap (option_and_then (node_number o u)) parent ∙ p.node.is, rest.2))

  pub first_alone : (k : ℕ) (e : Entry) (parent : Option ℕ) → e.parent ≡ parent → Stands o.seen.entries k e → e.unit ≡ u → parent ≡ None → k ≡ unit.first
  first_alone k e parent is_parent at same none =
      let s = sound.entries k e at in
      let unit_is : s.unit ≡ unit = same_Some s.unit unit (sym s.its_unit ∙ ap (slice_get o.seen.units) same ∙ is) in
      let h = subst (λ (x : InUnit). IsParent x k e.parent) unit_is s.parent in
      subst (λ (x : Option ℕ). IsParent unit k x) (is_parent ∙ none) h

  -- the parent of a node right behind node j
  pub node_parent : (j k k' : ℕ) (e e' : Entry) (parent : Option ℕ) → e.parent ≡ parent → unit.first < k → slice_get (kept_entries o u) (j + 1) ≡ Some (k, e) → slice_get (kept_entries o u) j ≡ Some (k', e')
      → IsPreorderParent nodes j (f (k, e)).parent
  node_parent j k k' e e' None parent behind at at' =
      let w = written_at o u (j + 1) (k, e) at in
      absurd (omega (arith, behind, first_alone k e e.parent refl w.stands w.unit parent))
  node_parent j k k' e e' (Some p) parent behind at at' =
      let w = written_at o u (j + 1) (k, e) at in
      let w' = written_at o u j (k', e') at' in
      let rise = written_rise o u in
      let above = has_parent k p e w.stands w.unit w.kept parent in
      let lies = parent_in_unit o sound parents u unit k p e is w.stands w.unit parent in
      let before = number_before (kept_entries o u) rise above.node.number (j + 1) (p, above.entry) (k, e) above.node.at at lies.1 in
      let not_behind : p ≤ k' = elim (cases_lt k' p) [
        | inl lt ↦ absurd (omega (arith, before, number_before (kept_entries o u) rise j above.node.number (k', e') (p, above.entry) at' above.node.at lt))
        | inr le ↦ le
      ] in
      let earlier = rise_read (kept_entries o u) rise j (j + 1) (k', e') (k, e) at' at (omega arith) in
      let chain = parent_above o.seen.entries order k k' p e w.stands parent not_behind earlier in
      let own = node_of_entry o u unit k' e' sound is w'.stands w'.unit w'.kept in
      let own_place : own.number ≡ j = number_once (kept_entries o u) rise own.number j (k', e') (k', e') own.at at' refl in
      let up = up_nodes chain.0 k' p j e' w'.stands w'.unit w'.kept (own.is ∙ ap (λ (n : ℕ). Some n) own_place) at' chain.1 in
      let same_number : up.0 ≡ above.node.number = same_Some up.0 above.node.number (sym up.1 ∙ above.node.is) in
      record {
        number = above.node.number;
        is = parent_is (k, e) ∙ ap (option_and_then (node_number o u)) parent ∙ above.node.is;
        earlier = omega (arith, before);
        steps = chain.0;
        up = subst (λ (n : ℕ). nodes_of.IsUp nodes chain.0 j n) same_number up.2;
      }
