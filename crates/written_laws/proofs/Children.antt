-- Which nodes have children: those whose next node is their child.
use Rattle.std.proofs.Common.{◌≡◌, ℕ, zero, suc, ◌+◌, ◌-◌, ◌<◌, ◌≤◌, Bool, true, false, List, [], ◌∷◌, ◌++◌, length, slice_get, get_or, if◌then◌else◌, Option, Some, None, inl, inr, refl, sym, ap, subst, ◌∙◌, arith}
use Rattle.std.specs.Option.{option_and_then}
use Rattle.std.proofs.lemmas.Bool.{eq-eqb, ne_eqb}
use Rattle.std.proofs.lemmas.Option.{slice_get_within, get_or_from_slice_get, slice_get-get_or}
use Rattle.std.proofs.lemmas.List.Folds.{list_any_at, list_any_none}
use Rattle.dwarf_types.specs.declared.graph.Node.{Node}
use Rattle.dwarf_types.specs.Abbreviations.{has_children, is_number}
use Rattle.dwarf_types.specs.Entries.{ancestors_of, lists_ended, parent_of}
use Rattle.written_laws.specs.ReadEntries.{IsPreorder}
use Rattle.written_laws.proofs.Ancestors.{ancestors_of_child, no_ancestors}
use Rattle.written_laws.proofs.Ended.{Ends, earlier, ends}

-- a number is none of some
abbrev pub Lacks : ℕ → List ℕ → Type 0
Lacks k [] = Unit {0}
Lacks k (x ∷ xs) = (x ≡ k → ⊥) × Lacks k xs

lacks_back : (k : ℕ) (xs ys : List ℕ) → Lacks k (xs ++ ys) → Lacks k ys
lacks_back k [] ys h = h
lacks_back k (x ∷ xs) ys h = lacks_back k xs ys h.1

lacks_first : (k x : ℕ) (xs : List ℕ) → x ≡ k → Lacks k (x ∷ xs) → ⊥
lacks_first k x xs e h = h.0 e

-- the node that has a parent
pub node_with : (nodes : List Node) (k p : ℕ) (o : Option Node) → slice_get nodes k ≡ o → option_and_then (λ (n : Node). n.parent) o ≡ Some p → (node : Node) × (slice_get nodes k ≡ Some node) × (node.parent ≡ Some p)
node_with nodes k p None at is = absurd cc
node_with nodes k p (Some node) at is = (node, at, is)

module _ (nodes : List Node) (order : IsPreorder nodes) where
  pub parent_before : (k p : ℕ) → parent_of nodes k ≡ Some p → p < k
  parent_before k p is = let n = node_with nodes k p (slice_get nodes k) refl is in earlier nodes order k p n.0 n.1 n.2

  -- what stands above a node has a lower number
  lower_by : (most k j : ℕ) (parent : Option ℕ) → j ≤ most → j ≤ k → parent_of nodes j ≡ parent → Lacks k (ancestors_of nodes j)
  lower_by most k j None few le is = subst (Lacks k) (sym (no_ancestors nodes j is)) tt
  lower_by zero k j (Some p) few le is = absurd (omega (arith, few, parent_before j p is))
  lower_by (suc most) k j (Some p) few le is =
      let lt = parent_before j p is in
      subst (Lacks k) (sym (ancestors_of_child nodes j p is lt)) ((λ e. absurd (omega (arith, e, lt, le))), lower_by most k p (parent_of nodes p) (omega (arith, few, lt)) (omega (arith, lt, le)) refl)

  -- a node that isn't above the next one is above none behind it
  step_lacks : (k j : ℕ) → k < j → Lacks k (ancestors_of nodes j) → Lacks k (ancestors_of nodes (j + 1))
  step_lacks k j lt h =
      let e : Ends nodes j = ends nodes order j in
      let shared : Lacks k e.shared = lacks_back k e.ended e.shared (subst (Lacks k) e.above h) in
      elim e.next [
        | inl same ↦ subst (Lacks k) (sym same) shared
        | inr child ↦ subst (Lacks k) (sym child.1) ((λ same. absurd (omega (arith, same, lt))), shared)
      ]

  all_lack : (k d : ℕ) → Lacks k (ancestors_of nodes (k + 1)) → Lacks k (ancestors_of nodes (k + 1 + d))
  all_lack k zero h = let same : k + 1 ≡ k + 1 + zero = omega arith in subst (λ (j : ℕ). Lacks k (ancestors_of nodes j)) same h
  all_lack k (suc d) h =
      let same : k + 1 + d + 1 ≡ k + 1 + suc d = omega arith in
      subst (λ (j : ℕ). Lacks k (ancestors_of nodes j)) same (step_lacks k (k + 1 + d) (omega arith) (all_lack k d h))

  -- so it is no parent
  is_other : (k j : ℕ) (parent : Option ℕ) → Lacks k (ancestors_of nodes (k + 1)) → parent_of nodes j ≡ parent → is_number k parent ≡ false
  is_other k j None h is = refl
  is_other k j (Some p) h is = ne_eqb p k differ
    where
      differ : p ≡ k → ⊥
      differ same =
          let lt = parent_before j p is in
          let place : j ≡ k + 1 + (j - k - 1) = omega (arith, same, lt) in
          let lacks : Lacks k (ancestors_of nodes j) = subst (λ (i : ℕ). Lacks k (ancestors_of nodes i)) (sym place) (all_lack k (j - k - 1) h) in
          lacks_first k p (ancestors_of nodes p) same (subst (Lacks k) (ancestors_of_child nodes j p is lt) lacks)

  pub none_below : (k : ℕ) → Lacks k (ancestors_of nodes (k + 1)) → has_children nodes k ≡ false
  none_below k h =
      list_any_none (λ (n : Node). is_number k n.parent) nodes
      (λ i d lt. is_other k i (get_or nodes i d).parent h (ap (option_and_then (λ (n : Node). n.parent)) (slice_get-get_or nodes i d lt)))

  child_by : (k : ℕ) (shared : List ℕ) (parent : Option ℕ) → parent_of nodes (k + 1) ≡ parent → ancestors_of nodes (k + 1) ≡ k ∷ shared → has_children nodes k ≡ true
  child_by k shared None is above = absurd (let none = no_ancestors nodes (k + 1) is in cc)
  child_by k shared (Some p) is above =
      let n = node_with nodes (k + 1) p (slice_get nodes (k + 1)) refl is in
      let own : ancestors_of nodes (k + 1) ≡ p ∷ ancestors_of nodes p = ancestors_of_child nodes (k + 1) p is (parent_before (k + 1) p is) in
      let same : p ≡ k = cc in
      let lt = slice_get_within nodes (k + 1) n.0 n.1 in
      let here : is_number k n.0.parent ≡ true = ap (is_number k) n.2 ∙ eq-eqb p k same in
      list_any_at (λ (m : Node). is_number k m.parent) nodes (k + 1) n.0 lt (ap (λ (m : Node). is_number k m.parent) (get_or_from_slice_get nodes (k + 1) n.0 n.0 n.1) ∙ here)

  -- the lists that are open behind the code and the values of a node
  pub open_behind : ℕ → List ℕ
  open_behind k = if has_children nodes k then k ∷ ancestors_of nodes k else ancestors_of nodes k

  pub opened_by : (k : ℕ) (b : Bool) → has_children nodes k ≡ b → open_behind k ≡ (if b then k ∷ ancestors_of nodes k else ancestors_of nodes k)
  unfolding open_behind
  opened_by k b e = ap (λ (c : Bool). if c then k ∷ ancestors_of nodes k else ancestors_of nodes k) e

  -- they are those that end behind it, and those around the next one
  pub record Opens (k : ℕ) : Type 0 where
    pub ended : List ℕ
    pub count : lists_ended nodes k ≡ length ended
    pub is : open_behind k ≡ ended ++ ancestors_of nodes (k + 1)

  pub opens : (k : ℕ) → Opens k
  opens k =
      let e : Ends nodes k = ends nodes order k in
      elim e.next [
        | inl same ↦
            let lacks : Lacks k e.shared = lacks_back k e.ended e.shared (subst (Lacks k) e.above (lower_by k k k (parent_of nodes k) (omega arith) (omega arith) refl)) in
            let none : has_children nodes k ≡ false = none_below k (subst (Lacks k) (sym same) lacks) in
            record { ended = e.ended; count = e.count; is = opened_by k false none ∙ e.above ∙ ap (λ (xs : List ℕ). e.ended ++ xs) (sym same) }
        | inr child ↦
            let has : has_children nodes k ≡ true = child_by k e.shared (parent_of nodes (k + 1)) refl child.1 in
            let above : ancestors_of nodes k ≡ e.shared = e.above ∙ ap (λ (xs : List ℕ). xs ++ e.shared) child.0 in
            record { ended = []; count = e.count ∙ ap length child.0; is = opened_by k true has ∙ ap (λ (xs : List ℕ). k ∷ xs) above ∙ sym child.1 }
      ]
