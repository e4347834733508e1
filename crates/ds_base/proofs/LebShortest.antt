-- The spellings that are written are the shortest.
use Rattle.std.proofs.Common.{◌≡◌, ◌<◌, ◌+◌, ◌*◌, ◌/◌, ◌^◌, ◌-ℤ◌, ℕ, zero, suc, ℤ, pos, negsuc, Bool, true, false, IsTrue, List, [], ◌∷◌, length, nat_lt, inl, inr, arith}
use Rattle.std.proofs.lemmas.Bool.{ltb-true, ltb-false, cases_Bool}
use Rattle.std.proofs.lemmas.Int.{ints}
use Rattle.ds_base.specs.Leb.{digit, uleb_value, sleb_value, fits_i64, leb_digits, uleb, uleb_len_of, sleb, IsSpelled, last, more, IsShortestUleb, IsShortestSleb}
use Rattle.ds_base.proofs.LebLengths.{some_digits, digits_hold, least_digits}
use Rattle.ds_base.proofs.LebValues.{digit-below, value_complement, length-leb_digits, value-leb_digits, sleb_value-leb_digits, sleb_value-leb_digits_flipped}

pub digits_spelled : (flip : Bool) (count n : ℕ) → 0 < count → IsSpelled (leb_digits flip count n)
digits_spelled flip zero n some = absurd (omega arith)
digits_spelled flip (suc zero) n some = last (digit flip n) (digit-below flip n)
digits_spelled flip (suc (suc count)) n some =
    let below = digit-below flip n in
    more (digit flip n + 128) (leb_digits flip (suc count) (n / 128)) (omega arith) (omega arith) (digits_spelled flip (suc count) (n / 128) (omega arith))

spelled_some : (bs : List ℕ) → IsSpelled bs → 0 < length bs
spelled_some [] spelled = elim spelled [ ]
spelled_some (b ∷ bs) spelled = omega arith

-- a signed spelling has room for twice the number
above_bound : (bs : List ℕ) (n : ℕ) → sleb_value bs ≡ pos n → 2 * n < 128 ^ length bs
above_bound bs n is = elim (cases_Bool (nat_lt (2 * uleb_value bs) (128 ^ length bs))) [
  | inl low ↦ let h : pos (uleb_value bs) ≡ pos n = rw low at is in omega (arith, ints, ltb-true _ _ low)
  | inr high ↦ let h : (pos (uleb_value bs) -ℤ pos (128 ^ length bs)) ≡ pos n = rw high at is in omega (arith, ints, ltb-false _ _ high, value_complement bs)
]

below_bound : (bs : List ℕ) (n : ℕ) → sleb_value bs ≡ negsuc n → 2 * n < 128 ^ length bs
below_bound bs n is = elim (cases_Bool (nat_lt (2 * uleb_value bs) (128 ^ length bs))) [
  | inl low ↦ let h : pos (uleb_value bs) ≡ negsuc n = rw low at is in omega (arith, ints)
  | inr high ↦ let h : (pos (uleb_value bs) -ℤ pos (128 ^ length bs)) ≡ negsuc n = rw high at is in omega (arith, ints, ltb-false _ _ high, value_complement bs)
]

pub uleb_shortest : (n : ℕ) → n < 2 ^ 64 → IsShortestUleb n (uleb n)
unfolding uleb
uleb_shortest n small = record {
  spelled = digits_spelled false (uleb_len_of n) n (some_digits n);
  value = value-leb_digits false (uleb_len_of n) n (digits_hold n small);
  shortest = λ others spelled value.
      rw (length-leb_digits false (uleb_len_of n) n) (least_digits n (length others) (spelled_some others spelled) (omega (arith, value_complement others)));
}

pub sleb_shortest : (z : ℤ) → IsTrue (fits_i64 z) → IsShortestSleb z (sleb z)
unfolding sleb
sleb_shortest (pos n) fits =
    let some = some_digits (2 * n) in
    let holds = digits_hold (2 * n) (omega (arith, ltb-true _ _ fits)) in
    record {
      spelled = digits_spelled false (uleb_len_of (2 * n)) n some;
      value = sleb_value-leb_digits (uleb_len_of (2 * n)) n holds;
      shortest = λ others spelled value.
          rw (length-leb_digits false (uleb_len_of (2 * n)) n) (least_digits (2 * n) (length others) (spelled_some others spelled) (above_bound others n value));
    }
sleb_shortest (negsuc n) fits =
    let some = some_digits (2 * n) in
    let holds = digits_hold (2 * n) (omega (arith, ltb-true _ _ fits)) in
    record {
      spelled = digits_spelled true (uleb_len_of (2 * n)) n some;
      value = sleb_value-leb_digits_flipped (uleb_len_of (2 * n)) n some holds;
      shortest = λ others spelled value.
          rw (length-leb_digits true (uleb_len_of (2 * n)) n) (least_digits (2 * n) (length others) (spelled_some others spelled) (below_bound others n value));
    }
