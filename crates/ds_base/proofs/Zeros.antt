-- The first zero byte, by a fast search.
use Rattle.std.proofs.Common.{inl, inr, ◌≡◌, ℕ, zero, suc, ◌<◌, List, [], ◌∷◌, length, get_or, refl, ap, arith, Option, Some, None, Bool, true, false}
use Rattle.std.specs.Prelude.{nat_lt, ◌==◌}
use Rattle.std.specs.Option.{option_map}
use Rattle.std.proofs.lemmas.Bool.{cases_lt, eq-eqb, le-ltb, lt-ltb, ne_eqb}
use Rattle.memchr.specs.Find.{IsFirstByte, is_byte}
use Rattle.ds_base.specs.Reading.{index_below}

below_one : (b : ℕ) → nat_lt b 1 ≡ (b == 0)
below_one b =
    elim (cases_lt b 1) [
      | inl lt ↦ rw (lt-ltb b 1 lt, eq-eqb b 0 (omega arith)) refl
      | inr le ↦ rw (le-ltb b 1 le, ne_eqb b 0 (λ is. omega arith)) refl
    ]

not_true : (b : Bool) → (b ≡ true → ⊥) → b ≡ false
not_true true never = absurd (never refl)
not_true false never = refl

none_below : (xs : List ℕ) → ((k : ℕ) → k < length xs → nat_lt (get_or xs k 0) 1 ≡ false) → index_below 1 xs ≡ None
none_below [] before = refl
none_below (x ∷ xs) before =
    rw (before 0 (omega arith)) (ap (option_map suc) (none_below xs (λ k lt. before (suc k) (omega arith))))

some_below : (xs : List ℕ) (n : ℕ) → n < length xs → ((k : ℕ) → k < n → nat_lt (get_or xs k 0) 1 ≡ false) → nat_lt (get_or xs n 0) 1 ≡ true → index_below 1 xs ≡ Some n
some_below [] n lt before here = absurd (omega arith)
some_below (x ∷ xs) zero lt before here = rw here refl
some_below (x ∷ xs) (suc n) lt before here =
    rw (before 0 (omega arith)) (ap (option_map suc) (some_below xs n (omega arith) (λ k below. before (suc k) (omega arith)) here))

pub first_zero_is : (xs : List ℕ) (r : Option ℕ) → IsFirstByte (is_byte 0) xs r → index_below 1 xs ≡ r
first_zero_is xs None nowhere = none_below xs (λ k lt. rw (below_one (get_or xs k 0)) (not_true _ (nowhere k (omega arith) lt)))
first_zero_is xs (Some n) found =
    some_below xs n found.0.high (λ k below. rw (below_one (get_or xs k 0)) (not_true _ (found.0.before k (omega arith) below))) (rw (below_one (get_or xs n 0)) found.1)
