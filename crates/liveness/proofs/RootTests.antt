-- The test for roots says what a root is.
use Rattle.std.proofs.Common.{◌≡◌, ℕ, ◌<◌, Bool, true, not, List, length, ◌↔◌, inl, inr, sym, subst, ◌∙◌}
use Rattle.std.proofs.lemmas.Bool.{and_from, and_parts, both_ways, eqb-true, eq-eqb, false_from_ne_true, not-true, not_from_false, or_cases, or_left, or_right}
use Rattle.std.proofs.lemmas.Option.{same_Some, slice_get_within}
use Rattle.dwarf_types.specs.declared.entry.Entry.{Entry}
use Rattle.dwarf_types.specs.Live.{IsInSubprogram, IsRoot, Stands, is_code, is_data, is_constant}
use Rattle.liveness.specs.Roots.{is_linked, is_root}
use Rattle.liveness.specs.Roots as tests

linked_is_root : (entries : List Entry) (k : ℕ) (e : Entry) → Stands entries k e → is_linked e ≡ true → IsRoot entries k
linked_is_root entries k e at t = elim (or_cases _ _ t) [
  | inl u ↦ (let it = and_parts _ _ u in is_code e at it.0 it.1)
  | inr u ↦ (let it = and_parts _ _ u in is_data e at (eqb-true _ _ it.0) it.1)
]

constant_is_root : (entries : List Entry) (k : ℕ) (e : Entry) (inside : Bool) → Stands entries k e → ((inside ≡ true) ↔ IsInSubprogram entries k) → tests.is_constant e ≡ true → not inside ≡ true → IsRoot entries k
constant_is_root entries k e inside at tells t out =
    let it = and_parts _ _ t in is_constant e at (eqb-true _ _ it.0) it.1 (λ w. both_ways inside (not-true inside out) (tells.1 w))

passes_at : (entries : List Entry) (k : ℕ) (inside : Bool) → ((inside ≡ true) ↔ IsInSubprogram entries k) → IsRoot entries k → (e : Entry) × Stands entries k e × (is_root e inside ≡ true)
passes_at entries k inside tells (is_code e at tag m) = (e, at, or_left _ _ (or_left _ _ (and_from _ _ tag m)))
passes_at entries k inside tells (is_data e at tag m) = (e, at, or_left _ _ (or_right _ _ (and_from _ _ (eq-eqb _ _ tag) m)))
passes_at entries k inside tells (is_constant e at tag m out) =
    (e, at, or_right _ _ (and_from _ _ (and_from _ _ (eq-eqb _ _ tag) m) (not_from_false inside (false_from_ne_true inside (λ t. out (tells.0 t))))))

pub is_root_is : (entries : List Entry) (k : ℕ) (e : Entry) (inside : Bool) → Stands entries k e → ((inside ≡ true) ↔ IsInSubprogram entries k) → (is_root e inside ≡ true) ↔ IsRoot entries k
is_root_is entries k e inside at tells = (
  (λ t. elim (or_cases _ _ t) [
    | inl u ↦ linked_is_root entries k e at u
    | inr u ↦ (let it = and_parts _ _ u in constant_is_root entries k e inside at tells it.0 it.1)
  ]),
  (λ w. (let it = passes_at entries k inside tells w in subst (λ (x : Entry). is_root x inside ≡ true) (same_Some it.0 e (sym it.1 ∙ at)) it.2)),
)

pub root_within : (entries : List Entry) (k : ℕ) → IsRoot entries k → k < length entries
root_within entries k (is_code e at tag m) = slice_get_within entries k e at
root_within entries k (is_data e at tag m) = slice_get_within entries k e at
root_within entries k (is_constant e at tag m out) = slice_get_within entries k e at
