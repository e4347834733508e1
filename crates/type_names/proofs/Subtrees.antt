-- Which entries stand in a subtree, child by child.
use Rattle.std.proofs.Common.{◌≡◌, ◌↔◌, ◌⊎◌, inl, inr, ◌<◌, ◌≤◌, ◌+◌, ◌==◌, ◌||◌, ◌&&◌, not, ℕ, zero, suc, Bool, true, false, List, [], ◌∷◌, length, Option, Some, None, refl, sym, ap, ◌∙◌, arith, subst, set, replicate}
use Rattle.std.specs.Option.{option_and_then}
use Rattle.std.proofs.lemmas.Bool.{both_ways, cases_eq, eq-eqb, eqb-true, ne_eqb}
use Rattle.std.proofs.lemmas.List.{get_or-set_other, get_or-set_same, length-set}
use Rattle.std.proofs.lemmas.List.Folds.{list_any-append}
use Rattle.std.proofs.lemmas.Option.{same_Some, slice_get_past}
use Rattle.dwarf_types.specs.declared.entry.Entry.{Entry}
use Rattle.dwarf_types.specs.Tree.{ParentsStandBefore}
use Rattle.type_names.specs.Tree.{HasMarkedBelow, HasMarkedFrom, HasMarkedIn, IsPassedTo, is_in, is_marked, lineage, parent_of, passed_up}
use Rattle.type_names.proofs.Lineages.{lineage_below, lineage_top, parent_before}

or_cases : (a b : Bool) → (a || b) ≡ true → (a ≡ true) ⊎ (b ≡ true)
or_cases true b is = inl refl
or_cases false b is = inr is

or_left : (a b : Bool) → a ≡ true → (a || b) ≡ true
or_left true b is = refl
or_left false b is = absurd (cc)

or_right : (a b : Bool) → b ≡ true → (a || b) ≡ true
or_right true b is = refl
or_right false b is = is

-- the last of a lineage
last_or : (a : Bool) → (a || false) ≡ true → a ≡ true
last_or true is = refl
last_or false is = is

pub in_top : (entries : List Entry) (a k : ℕ) → parent_of entries k ≡ None → is_in entries a k ≡ true → k ≡ a
in_top entries a k top is = eqb-true k a (last_or _ (rw (lineage_top entries k top) at is))

pub in_below : (entries : List Entry) (a k p : ℕ) → ParentsStandBefore entries → parent_of entries k ≡ Some p → is_in entries a k ≡ true → (is_in entries a p ≡ true) ⊎ (k ≡ a)
in_below entries a k p before below is =
    elim (or_cases (is_in entries a p) _ (rw (lineage_below entries k p before below, list_any-append (λ (j : ℕ). j == a) (lineage entries p) (k ∷ [])) at is)) [
      | inl above ↦ inl above
      | inr here ↦ inr (eqb-true k a (last_or _ here))
    ]

pub in_parent : (entries : List Entry) (a k p : ℕ) → ParentsStandBefore entries → parent_of entries k ≡ Some p → is_in entries a p ≡ true → is_in entries a k ≡ true
in_parent entries a k p before below is =
    rw (lineage_below entries k p before below, list_any-append (λ (j : ℕ). j == a) (lineage entries p) (k ∷ [])) (or_left _ _ is)

pub in_itself : (entries : List Entry) (k : ℕ) → ParentsStandBefore entries → is_in entries k k ≡ true
in_itself entries k before = go (parent_of entries k) refl where
  here : (k == k || false) ≡ true
  here = or_left _ false (eq-eqb k k refl)

  go : (o : Option ℕ) → parent_of entries k ≡ o → is_in entries k k ≡ true
  go None top = rw (lineage_top entries k top) here
  go (Some p) below = rw (lineage_below entries k p before below, list_any-append (λ (j : ℕ). j == k) (lineage entries p) (k ∷ [])) (or_right (is_in entries k p) _ here)

-- what holds of entries by their parents
pub by_parents : (entries : List Entry) (P : ℕ → Type 0) → ParentsStandBefore entries → ((k : ℕ) → parent_of entries k ≡ None → P k) → ((k p : ℕ) → parent_of entries k ≡ Some p → P p → P k) → (n k : ℕ) → k ≤ n → P k
by_parents entries P before top below n k le = go n k le (parent_of entries k) refl where
  go : (n k : ℕ) → k ≤ n → (o : Option ℕ) → parent_of entries k ≡ o → P k
  go n k le None is = top k is
  go zero k le (Some p) is = absurd (omega (arith, parent_before entries k p before is))
  go (suc n) k le (Some p) is = below k p is (go n p (omega (arith, parent_before entries k p before is)) (parent_of entries p) refl)

pub in_lower : (entries : List Entry) (a k : ℕ) → ParentsStandBefore entries → is_in entries a k ≡ true → a ≤ k
in_lower entries a k before = by_parents entries (λ (k : ℕ). is_in entries a k ≡ true → a ≤ k) before
    (λ k top is. omega (arith, in_top entries a k top is))
    (λ k p below above is. elim (in_below entries a k p before below is) [
      | inl higher ↦ omega (arith, above higher, parent_before entries k p before below)
      | inr same ↦ omega arith
    ]) k k (omega arith)

-- below an entry stands what stands in the subtree of a child
pub via_child : (entries : List Entry) (a k : ℕ) → ParentsStandBefore entries → is_in entries a k ≡ true → (k ≡ a → ⊥) → (c : ℕ) × (parent_of entries c ≡ Some a) × (is_in entries c k ≡ true)
via_child entries a k before = by_parents entries (λ (k : ℕ). is_in entries a k ≡ true → (k ≡ a → ⊥) → (c : ℕ) × (parent_of entries c ≡ Some a) × (is_in entries c k ≡ true)) before
    (λ k top is other. absurd (other (in_top entries a k top is)))
    (λ k p below above is other. elim (in_below entries a k p before below is) [
      | inr same ↦ absurd (other same)
      | inl higher ↦ elim (cases_eq p a) [
        | inl child ↦ (k, below ∙ ap (λ (p : ℕ). Some p) child, in_itself entries k before)
        | inr deeper ↦ (let c = above higher deeper in (c.0, c.1, in_parent entries c.0 k p before below c.2))
      ]
    ]) k k (omega arith)

pub child_in : (entries : List Entry) (a c k : ℕ) → ParentsStandBefore entries → parent_of entries c ≡ Some a → is_in entries c k ≡ true → is_in entries a k ≡ true
child_in entries a c k before child = by_parents entries (λ (k : ℕ). is_in entries c k ≡ true → is_in entries a k ≡ true) before
    (λ k top is. absurd (let same = in_top entries c k top is in let e = ap (parent_of entries) same in cc))
    (λ k p below above is. elim (in_below entries c k p before below is) [
      | inl higher ↦ in_parent entries a k p before below (above higher)
      | inr same ↦ in_parent entries a k a before (ap (parent_of entries) same ∙ child) (in_itself entries a before)
    ]) k k (omega arith)

-- ---- marks in subtrees

-- a subtree has a mark: its entry, or one in the subtree of a child
pub in_marked_cases : (entries : List Entry) (marks : List Bool) (k : ℕ) → ParentsStandBefore entries → HasMarkedIn entries marks k ↔ ((is_marked marks k ≡ true) ⊎ HasMarkedFrom entries marks (k + 1) k)
in_marked_cases entries marks k before = (
  (λ w. elim (cases_eq w.0 k) [
    | inl same ↦ inl (ap (is_marked marks) (sym same) ∙ w.2)
    | inr other ↦ (let c = via_child entries k w.0 before w.1 other in inr (c.0, omega (arith, parent_before entries c.0 k before c.1), c.1, (w.0, c.2, w.2)))
  ]),
  (λ w. elim w [
    | inl marked ↦ (k, in_itself entries k before, marked)
    | inr child ↦ (child.3.0, child_in entries k child.0 child.3.0 before child.2 child.3.1, child.3.2)
  ]),
)

pub below_is_from : (entries : List Entry) (marks : List Bool) (a : ℕ) → ParentsStandBefore entries → HasMarkedFrom entries marks 0 a ↔ HasMarkedBelow entries marks a
below_is_from entries marks a before = (
  (λ w. (
      let k = w.3.0 in
      let other : (k == a) ≡ false = ne_eqb k a (λ same. (let up = in_lower entries w.0 k before w.3.1 in let down = parent_before entries w.0 a before w.2 in omega arith)) in
      (k, rw other (child_in entries a w.0 k before w.2 w.3.1), w.3.2))),
  (λ w. (
      let parts = below_parts (w.0 == a) (is_in entries a w.0) w.1 in
      let c = via_child entries a w.0 before parts.1 (λ same. both_ways _ parts.0 (eq-eqb w.0 a same)) in
      (c.0, omega arith, c.1, (w.0, c.2, w.2)))),
) where
  below_parts : (a b : Bool) → (not a && b) ≡ true → (a ≡ false) × (b ≡ true)
  below_parts true b is = absurd (cc)
  below_parts false b is = (refl, is)

-- ---- the pass from the last entry to the first

pub passed_none : (entries : List Entry) (marks : List Bool) (row : List Bool) → length row ≡ length entries → ((k : ℕ) → is_marked row k ≡ false) → IsPassedTo entries marks row (length entries)
passed_none entries marks row len none = record {
  within = omega arith;
  len = len;
  each = λ a. (
    (λ is. absurd (both_ways _ (none a) is)),
    (λ w. absurd (none_past entries w.0 w.1 a w.2)),
  );
} where
  none_past : (entries : List Entry) (c : ℕ) → length entries ≤ c → (a : ℕ) → parent_of entries c ≡ Some a → ⊥
  none_past entries c past a is = (let none = slice_get_past entries c past in let e = ap (option_and_then (λ (e : Entry). e.parent)) none in cc)

-- a mark at the parent, where there is cause
set_cases : (row : List Bool) (p a : ℕ) → p < length row → (is_marked (set row p true) a ≡ true) ↔ ((a ≡ p) ⊎ (is_marked row a ≡ true))
set_cases row p a within = elim (cases_eq a p) [
  | inl same ↦ ((λ is. inl same), (λ w. ap (is_marked (set row p true)) same ∙ get_or-set_same row p true false within))
  | inr other ↦ ((λ is. inr (sym (get_or-set_other row p a true false other) ∙ is)), (λ w. elim w [ inl same ↦ absurd (other same) | inr is ↦ get_or-set_other row p a true false other ∙ is ]))
]

-- the children from entry i on are entry i, where it is one, and those behind it
from_cases : (entries : List Entry) (marks : List Bool) (i a : ℕ) → HasMarkedFrom entries marks i a ↔ (((parent_of entries i ≡ Some a) × HasMarkedIn entries marks i) ⊎ HasMarkedFrom entries marks (i + 1) a)
from_cases entries marks i a = (
  (λ w. elim (cases_eq w.0 i) [
    | inl same ↦ inl (ap (parent_of entries) (sym same) ∙ w.2, subst (HasMarkedIn entries marks) same w.3)
    | inr other ↦ inr (w.0, omega (arith, w.1), w.2, w.3)
  ]),
  (λ w. elim w [
    | inl here ↦ (i, omega arith, here.0, here.1)
    | inr later ↦ (later.0, omega (arith, later.1), later.2, later.3)
  ]),
)

pub passed_more : (entries : List Entry) (marks row : List Bool) (i : ℕ) (parent : Option ℕ) → ParentsStandBefore entries → i < length entries → parent_of entries i ≡ parent
    → IsPassedTo entries marks row (i + 1) → IsPassedTo entries marks (passed_up row marks parent i) i
passed_more entries marks row i parent before within is so_far = go parent is (is_marked marks i || is_marked row i) refl where
  marked : (is_marked marks i || is_marked row i) ≡ true → HasMarkedIn entries marks i
  marked t = (in_marked_cases entries marks i before).1 (elim (or_cases _ _ t) [ inl own ↦ inl own | inr below ↦ inr ((so_far.each i).0 below) ])

  unmarked : (is_marked marks i || is_marked row i) ≡ false → HasMarkedIn entries marks i → ⊥
  unmarked f w = elim ((in_marked_cases entries marks i before).0 w) [ inl own ↦ both_ways _ f (or_left _ _ own) | inr below ↦ both_ways _ f (or_right (is_marked marks i) _ ((so_far.each i).1 below)) ]

  kept : (a : ℕ) → ((parent_of entries i ≡ Some a) × HasMarkedIn entries marks i → ⊥) → (is_marked row a ≡ true) ↔ HasMarkedFrom entries marks i a
  kept a never = ((λ t. (from_cases entries marks i a).1 (inr ((so_far.each a).0 t))), (λ w. elim ((from_cases entries marks i a).0 w) [ inl here ↦ absurd (never here) | inr later ↦ (so_far.each a).1 later ]))

  go : (parent : Option ℕ) → parent_of entries i ≡ parent → (t : Bool) → (is_marked marks i || is_marked row i) ≡ t → IsPassedTo entries marks (passed_up row marks parent i) i
  go parent is false f = rw f (record { within = omega arith; len = so_far.len; each = λ a. kept a (λ w. unmarked f w.1) })
  go None is true t = rw t (record { within = omega arith; len = so_far.len; each = λ a. kept a (λ w. (let e = w.0 in cc)) })
  go (Some p) is true t =
      let p_in : p < length row = omega (arith, parent_before entries i p before is, so_far.len) in
      rw t (record {
        within = omega arith;
        len = length-set row p true ∙ so_far.len;
        each = λ a. (
          (λ m. elim ((set_cases row p a p_in).0 m) [
            | inl same ↦ (from_cases entries marks i a).1 (inl (is ∙ ap (λ (p : ℕ). Some p) (sym same), marked t))
            | inr old ↦ (from_cases entries marks i a).1 (inr ((so_far.each a).0 old))
          ]),
          (λ w. (set_cases row p a p_in).1 (elim ((from_cases entries marks i a).0 w) [
            | inl here ↦ inl (same_Some a p (sym here.0 ∙ is))
            | inr later ↦ inr ((so_far.each a).1 later)
          ])),
        );
      })

pub none_marked : (n k : ℕ) → is_marked (replicate n false) k ≡ false
none_marked zero k = refl
none_marked (suc n) zero = refl
none_marked (suc n) (suc k) = none_marked n k
