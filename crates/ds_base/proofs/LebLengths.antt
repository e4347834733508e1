-- How many digits a number wants.
use Rattle.std.proofs.Common.{◌≡◌, ◌<◌, ◌≤◌, ◌*◌, ◌^◌, ℕ, ℤ, pos, negsuc, ◌<ℤ◌, ◌-ℤ◌, length, true, false, inl, inr, arith, ap}
use Rattle.std.proofs.Math.Nat.{pow-le-pow_right}
use Rattle.std.proofs.lemmas.Bool.{cases_lt}
use Rattle.std.proofs.lemmas.Bool.Decides.{nat_tests}
use Rattle.std.proofs.lemmas.Int.{ints}
use lib.IntN.{nat_abs}
use Rattle.ds_base.specs.Leb.{uleb_len_of, sleb_len_of, uleb, sleb}
use Rattle.ds_base.proofs.LebValues.{length-leb_digits}

pub few_digits : (n : ℕ) → uleb_len_of n ≤ 10
few_digits n = grind (arith, nat_tests)

pub some_digits : (n : ℕ) → 0 < uleb_len_of n
some_digits n = grind (arith, nat_tests)

pub digits_hold : (n : ℕ) → n < 2 ^ 64 → n < 128 ^ uleb_len_of n
digits_hold n small = grind (arith, nat_tests)

more_digits : (j k n : ℕ) → n < 128 ^ k → 128 ^ j ≤ n → j < k
more_digits j k n fits wide =
    elim (cases_lt j k) [ inl lt ↦ lt | inr le ↦ absurd (let h : 128 ^ k ≤ 128 ^ j = pow-le-pow_right (omega arith) le in omega arith) ]

-- no fewer digits hold the number
pub least_digits : (n k : ℕ) → 0 < k → n < 128 ^ k → uleb_len_of n ≤ k
least_digits n k some fits =
    let m1 : 2 ^ 7 ≤ n → 1 < k = more_digits 1 k n fits in
    let m2 : 2 ^ 14 ≤ n → 2 < k = more_digits 2 k n fits in
    let m3 : 2 ^ 21 ≤ n → 3 < k = more_digits 3 k n fits in
    let m4 : 2 ^ 28 ≤ n → 4 < k = more_digits 4 k n fits in
    let m5 : 2 ^ 35 ≤ n → 5 < k = more_digits 5 k n fits in
    let m6 : 2 ^ 42 ≤ n → 6 < k = more_digits 6 k n fits in
    let m7 : 2 ^ 49 ≤ n → 7 < k = more_digits 7 k n fits in
    let m8 : 2 ^ 56 ≤ n → 8 < k = more_digits 8 k n fits in
    let m9 : 2 ^ 63 ≤ n → 9 < k = more_digits 9 k n fits in
    grind (arith, nat_tests)

pub length-uleb : (n : ℕ) → length (uleb n) ≡ uleb_len_of n
unfolding uleb
length-uleb n = length-leb_digits false (uleb_len_of n) n

pub length-sleb : (z : ℤ) → length (sleb z) ≡ sleb_len_of z
unfolding sleb
length-sleb (pos n) = length-leb_digits false (uleb_len_of (2 * n)) n
length-sleb (negsuc n) = length-leb_digits true (uleb_len_of (2 * n)) n

pub few_signed_digits : (z : ℤ) → sleb_len_of z ≤ 10
few_signed_digits (pos n) = few_digits (2 * n)
few_signed_digits (negsuc n) = few_digits (2 * n)

-- below zero the complement counts
pub sleb_len_below : (z : ℤ) → z <ℤ pos 0 → uleb_len_of (2 * nat_abs (negsuc 0 -ℤ z)) ≡ sleb_len_of z
sleb_len_below (pos n) below = absurd (omega (arith, ints))
sleb_len_below (negsuc n) below =
    let e : negsuc 0 -ℤ negsuc n ≡ pos n = omega (arith, ints) in
    ap (λ (z : ℤ). uleb_len_of (2 * nat_abs z)) e
