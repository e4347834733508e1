-- The lists of siblings that end behind a node in preorder.
use Rattle.std.proofs.Common.{◌≡◌, ◌⊎◌, ℕ, zero, suc, ◌+◌, ◌<◌, List, [], ◌∷◌, ◌++◌, length, slice_get, append-nil, Option, Some, None, inl, inr, refl, sym, ap, ◌∙◌, arith, length-append}
use Rattle.std.specs.Option.{option_and_then}
use Rattle.std.proofs.lemmas.Option.{same_Some}
use Rattle.dwarf_types.specs.declared.graph.Node.{Node}
use Rattle.dwarf_types.specs.Entries.{ancestors_of, lists_ended, parent_of}
use Rattle.dwarf_types.specs.WellNodes.{IsUp}
use Rattle.written_laws.specs.ReadEntries.{IsPreorder}
use Rattle.written_laws.proofs.Ancestors.{ancestors_of_child, no_ancestors}

-- Behind a node the lists of those of its ancestors end below which the next node doesn't stand. The ancestors that they share are all that the next node has, or it is a child of this one.
pub record Ends (nodes : List Node) (k : ℕ) : Type 0 where
  pub ended : List ℕ
  pub shared : List ℕ
  pub above : ancestors_of nodes k ≡ ended ++ shared
  pub next : (ancestors_of nodes (k + 1) ≡ shared) ⊎ ((ended ≡ []) × (ancestors_of nodes (k + 1) ≡ k ∷ shared))
  pub count : lists_ended nodes k ≡ length ended

module _ (nodes : List Node) (order : IsPreorder nodes) where
  root_is : (node : Node) → slice_get nodes 0 ≡ Some node → node.parent ≡ None
  root_is node at = let root = same_Some _ _ (ap (λ (ns : List Node). slice_get ns 0) (sym order.nodes_are) ∙ at) in ap (λ (n : Node). n.parent) (sym root) ∙ order.no_parent

  pub parent_is : (k p : ℕ) (node : Node) → slice_get nodes k ≡ Some node → node.parent ≡ Some p → parent_of nodes k ≡ Some p
  parent_is k p node at is = ap (option_and_then (λ (n : Node). n.parent)) at ∙ is

  pub earlier : (k p : ℕ) (node : Node) → slice_get nodes k ≡ Some node → node.parent ≡ Some p → p < k
  earlier zero p node at is = absurd (let none = root_is node at in cc)
  earlier (suc k) p node at is =
      let next : suc k ≡ k + 1 = omega arith in
      let h = order.preorder k node (ap (slice_get nodes) (sym next) ∙ at) in
      omega (arith, h.earlier, same_Some _ _ (sym h.is ∙ is))

  -- from a node up to one above it
  pub record Way (k p : ℕ) : Type 0 where
    pub front : List ℕ
    pub is : k ∷ ancestors_of nodes k ≡ front ++ (p ∷ ancestors_of nodes p)

  way : (n k p : ℕ) → IsUp nodes n k p → Way k p
  way zero k p up = record { front = []; is = ap (λ (i : ℕ). i ∷ ancestors_of nodes i) (sym up) }
  way (suc n) k p (node, q, at, is, up) =
      let more : Way q p = way n q p up in
      let here : ancestors_of nodes k ≡ q ∷ ancestors_of nodes q = ancestors_of_child nodes k q (parent_is k q node at is) (earlier k q node at is) in
      record { front = k ∷ more.front; is = ap (λ (above : List ℕ). k ∷ above) (here ∙ more.is) }

  ends_by : (k p : ℕ) (front : List ℕ) → k ∷ ancestors_of nodes k ≡ front ++ (p ∷ ancestors_of nodes p) → ancestors_of nodes (k + 1) ≡ p ∷ ancestors_of nodes p → Ends nodes k
  ends_by k p [] e next = record {
    ended = [];
    shared = ancestors_of nodes k;
    above = refl;
    next = inr (refl, next ∙ sym e);
    count = omega (arith, ap length (next ∙ sym e));
  }
  ends_by k p (x ∷ front) e next =
      let above : ancestors_of nodes k ≡ front ++ (p ∷ ancestors_of nodes p) = cc in
      record {
        ended = front;
        shared = p ∷ ancestors_of nodes p;
        above = above;
        next = inl next;
        count = omega (arith, ap length above, ap length next, length-append front (p ∷ ancestors_of nodes p));
      }

  ends_before : (k : ℕ) (o : Option Node) → slice_get nodes (k + 1) ≡ o → Ends nodes k
  ends_before k None at =
      let none : ancestors_of nodes (k + 1) ≡ [] = no_ancestors nodes (k + 1) (ap (option_and_then (λ (n : Node). n.parent)) at) in
      record {
        ended = ancestors_of nodes k;
        shared = [];
        above = sym (append-nil (ancestors_of nodes k));
        next = inl none;
        count = omega (arith, ap length none);
      }
  ends_before k (Some node) at =
      let h = order.preorder k node at in
      let w = way h.steps k h.number h.up in
      let next = ancestors_of_child nodes (k + 1) h.number (parent_is (k + 1) h.number node at h.is) (omega (arith, h.earlier)) in
      ends_by k h.number w.front w.is next

  pub ends : (k : ℕ) → Ends nodes k
  ends k = ends_before k (slice_get nodes (k + 1)) refl
