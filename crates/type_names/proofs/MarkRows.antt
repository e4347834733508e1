-- Rows of marks, place by place.
use Rattle.std.proofs.Common.{◌≡◌, ◌+◌, ◌<◌, ℕ, Bool, true, false, List, length, set, replicate, sym, ap, ◌∙◌, arith, inl, inr}
use Rattle.std.proofs.lemmas.Bool.{cases_eq}
use Rattle.std.proofs.lemmas.List.{get_or-set_other, get_or-set_same, length-replicate, length-set}
use Rattle.type_names.specs.Tree.{is_marked}
use Rattle.type_names.specs.Rows.{IsRowTo, marked_if}
use Rattle.type_names.proofs.Subtrees.{none_marked}

pub row_none : (test : ℕ → Bool) (n : ℕ) → IsRowTo test n (replicate n false) 0
row_none test n = record {
  len = length-replicate n false;
  each = λ k lt. absurd (omega arith);
  none = λ k le. none_marked n k;
}

pub row_more : (test : ℕ → Bool) (n : ℕ) (row : List Bool) (i : ℕ) (b : Bool) → IsRowTo test n row i → i < n → b ≡ test i → IsRowTo test n (marked_if row i b) (i + 1)
row_more test n row i true so_far within is =
    let place : i < length row = omega (arith, so_far.len) in
    record {
      len = length-set row i true ∙ so_far.len;
      each = λ k lt. elim (cases_eq k i) [
        | inl same ↦ ap (is_marked (set row i true)) same ∙ get_or-set_same row i true false place ∙ is ∙ ap test (sym same)
        | inr other ↦ get_or-set_other row i k true false other ∙ so_far.each k (omega arith)
      ];
      none = λ k le. (let other : k ≡ i → ⊥ = λ e. omega arith in get_or-set_other row i k true false other ∙ so_far.none k (omega arith));
    }
row_more test n row i false so_far within is = record {
  len = so_far.len;
  each = λ k lt. elim (cases_eq k i) [
    | inl same ↦ ap (is_marked row) same ∙ so_far.none i (omega arith) ∙ is ∙ ap test (sym same)
    | inr other ↦ so_far.each k (omega arith)
  ];
  none = λ k le. so_far.none k (omega arith);
}
