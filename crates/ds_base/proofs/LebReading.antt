-- What is spelled is read: from any spot whose rest begins with the spelling of a number.
use Rattle.std.proofs.Common.{◌≡◌, ◌<◌, ◌+◌, ◌-◌, ◌*◌, ◌/◌, ◌^◌, ◌++◌, ℕ, zero, suc, ℤ, pos, negsuc, Bool, true, false, List, length, Some, Ok, IsTrue, arith, refl}
use Rattle.std.proofs.lemmas.Bool.{lt-ltb, le-ltb, ltb-true}
use Rattle.std.proofs.lemmas.List.{take_all, take_at}
use Rattle.ds_base.specs.Leb.{digit, sleb_value, fits_i64, leb_digits, uleb, uleb_len_of, sleb, sleb_len_of}
use Rattle.ds_base.specs.Reading.{index_below, leb_at, uleb_at, sleb_at}
use Rattle.ds_base.specs.Spot.{Spot, rest, after, start}
use Rattle.ds_base.specs.declared.fault.Part.{Part}
use Rattle.ds_base.proofs.LebLengths.{some_digits, digits_hold}
use Rattle.ds_base.proofs.LebValues.{digit-below, length-leb_digits, value-leb_digits, sleb_value-leb_digits, sleb_value-leb_digits_flipped}

-- the last digit ends the number
ended : (flip : Bool) (count n : ℕ) (more : List ℕ) → index_below 128 (leb_digits flip (suc count) n ++ more) ≡ Some count
ended flip zero n more = rw (lt-ltb (digit flip n) 128 (digit-below flip n)) refl
ended flip (suc count) n more = rw (le-ltb (digit flip n + 128) 128 (omega arith), ended flip count (n / 128) more) refl

leb_found : (flip : Bool) (count n : ℕ) (s : Spot) (more : List ℕ) → 0 < count → rest s ≡ leb_digits flip count n ++ more → leb_at s ≡ Ok (leb_digits flip count n)
unfolding leb_at
leb_found flip zero n s more some whole = absurd (omega arith)
leb_found flip (suc count) n s more some whole =
    let len : length (leb_digits flip (suc count) n) ≡ count + 1 = omega (arith, length-leb_digits flip (suc count) n) in
    rw (whole, ended flip count n more, take_at (leb_digits flip (suc count) n) more (count + 1) len) refl

-- a number without a sign in so many digits, padded or not
pub uleb_found_in : (count n : ℕ) (s : Spot) (more : List ℕ) → 0 < count → n < 128 ^ count → n < 2 ^ 64 → rest s ≡ leb_digits false count n ++ more
    → uleb_at s ≡ Ok (n, after s count)
unfolding uleb_at
uleb_found_in count n s more some holds small whole =
    rw (leb_found false count n s more some whole, value-leb_digits false count n holds, lt-ltb n (2 ^ 64) small, length-leb_digits false count n) refl

pub uleb_found : (n : ℕ) (s : Spot) (more : List ℕ) → n < 2 ^ 64 → rest s ≡ uleb n ++ more → uleb_at s ≡ Ok (n, after s (uleb_len_of n))
unfolding uleb
uleb_found n s more small whole = uleb_found_in (uleb_len_of n) n s more (some_digits n) (digits_hold n small) small whole

pub uleb4_found : (n : ℕ) (s : Spot) (more : List ℕ) → n < 2 ^ 28 → rest s ≡ leb_digits false 4 n ++ more → uleb_at s ≡ Ok (n, after s 4)
uleb4_found n s more small whole = uleb_found_in 4 n s more (omega arith) small (omega arith) whole

sleb_found_in : (flip : Bool) (count n : ℕ) (z : ℤ) (s : Spot) (more : List ℕ) → 0 < count → sleb_value (leb_digits flip count n) ≡ z → IsTrue (fits_i64 z)
    → rest s ≡ leb_digits flip count n ++ more → sleb_at s ≡ Ok (z, after s count)
unfolding sleb_at
sleb_found_in flip count n z s more some value fits whole =
    rw (leb_found flip count n s more some whole, value, fits, length-leb_digits flip count n) refl

pub sleb_found : (z : ℤ) (s : Spot) (more : List ℕ) → IsTrue (fits_i64 z) → rest s ≡ sleb z ++ more → sleb_at s ≡ Ok (z, after s (sleb_len_of z))
unfolding sleb
sleb_found (pos n) s more fits whole =
    let holds = digits_hold (2 * n) (omega (arith, ltb-true _ _ fits)) in
    sleb_found_in false (uleb_len_of (2 * n)) n (pos n) s more (some_digits (2 * n)) (sleb_value-leb_digits (uleb_len_of (2 * n)) n holds) fits whole
sleb_found (negsuc n) s more fits whole =
    let holds = digits_hold (2 * n) (omega (arith, ltb-true _ _ fits)) in
    let some = some_digits (2 * n) in
    sleb_found_in true (uleb_len_of (2 * n)) n (negsuc n) s more some (sleb_value-leb_digits_flipped (uleb_len_of (2 * n)) n some holds) fits whole

pub rest-start : (part : Part) (bytes : List ℕ) → rest (start part bytes) ≡ bytes
rest-start part bytes = take_all (length bytes - 0) bytes (omega arith)
