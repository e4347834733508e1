-- What digits mean: read from the last to the first, complemented, as two's complement.
use Rattle.std.proofs.Common.{◌≡◌, ◌<◌, ◌≤◌, ◌+◌, ◌*◌, ◌%◌, ◌/◌, ◌^◌, ◌∙◌, ℕ, zero, suc, pos, negsuc, Bool, true, false, List, [], ◌∷◌, length, drop, get_or, arith, refl}
use Rattle.std.proofs.Math.Nat.{pow-suc}
use Rattle.std.proofs.lemmas.Bool.{lt-ltb, le-ltb}
use Rattle.std.proofs.lemmas.Int.{ints}
use Rattle.ds_base.specs.Leb.{digit, digits_value, sleb_value, leb_digits}

-- the digits from one behind the first on, moved up by one, are no more than all
pub rest_times : (flip : Bool) (bs : List ℕ) (i : ℕ) → 0 < i → 128 * digits_value flip (drop i bs) ≤ digits_value flip bs
rest_times flip bs zero some = absurd (omega arith)
rest_times flip [] (suc i) some = omega arith
rest_times flip (b ∷ bs) (suc zero) some = omega arith
rest_times flip (b ∷ bs) (suc (suc i)) some = let h = rest_times flip bs (suc i) (omega arith) in omega arith

-- the digits and their complements make all ones
pub value_complement : (bs : List ℕ) → digits_value false bs + digits_value true bs + 1 ≡ 128 ^ length bs
value_complement [] = refl
value_complement (b ∷ bs) = omega (arith, value_complement bs, pow-suc 128 (length bs))

-- the last digit decides the sign
below_half : (bs : List ℕ) (i : ℕ) → suc i ≡ length bs → get_or bs i 0 % 128 < 64 → 2 * digits_value false bs + 2 ≤ 128 ^ length bs
below_half [] i last low = absurd (omega arith)
below_half (b ∷ []) zero last low = omega arith
below_half (b ∷ []) (suc i) last low = absurd (omega arith)
below_half (b ∷ c ∷ bs) zero last low = absurd (omega arith)
below_half (b ∷ c ∷ bs) (suc i) last low =
    let h = below_half (c ∷ bs) i (omega arith) low in
    omega (arith, pow-suc 128 (length (c ∷ bs)))

above_half : (bs : List ℕ) (i : ℕ) → suc i ≡ length bs → 64 ≤ get_or bs i 0 % 128 → 128 ^ length bs ≤ 2 * digits_value false bs
above_half [] i last high = absurd (omega arith)
above_half (b ∷ []) zero last high = omega arith
above_half (b ∷ []) (suc i) last high = absurd (omega arith)
above_half (b ∷ c ∷ bs) zero last high = absurd (omega arith)
above_half (b ∷ c ∷ bs) (suc i) last high =
    let h = above_half (c ∷ bs) i (omega arith) high in
    omega (arith, pow-suc 128 (length (c ∷ bs)))

sleb_value_if_below : (bs : List ℕ) → 2 * digits_value false bs < 128 ^ length bs → sleb_value bs ≡ pos (digits_value false bs)
sleb_value_if_below bs low = rw (lt-ltb _ _ low) refl

sleb_value_if_above : (bs : List ℕ) → 128 ^ length bs ≤ 2 * digits_value false bs → sleb_value bs ≡ negsuc (digits_value true bs)
sleb_value_if_above bs high = rw (le-ltb _ _ high) (omega (arith, ints, value_complement bs))

pub sleb_value_above : (bs : List ℕ) (i : ℕ) → suc i ≡ length bs → get_or bs i 0 % 128 < 64 → sleb_value bs ≡ pos (digits_value false bs)
sleb_value_above bs i last low = let h = below_half bs i last low in sleb_value_if_below bs (omega arith)

pub sleb_value_below : (bs : List ℕ) (i : ℕ) → suc i ≡ length bs → 64 ≤ get_or bs i 0 % 128 → sleb_value bs ≡ negsuc (digits_value true bs)
sleb_value_below bs i last high = sleb_value_if_above bs (above_half bs i last high)

-- the digits of a number

pub length-leb_digits : (flip : Bool) (count n : ℕ) → length (leb_digits flip count n) ≡ count
length-leb_digits flip zero n = refl
length-leb_digits flip (suc zero) n = refl
length-leb_digits flip (suc (suc count)) n = omega (arith, length-leb_digits flip (suc count) (n / 128))

pub digit-below : (flip : Bool) (n : ℕ) → digit flip n < 128
digit-below false n = omega arith
digit-below true n = omega arith

digit-digit : (flip : Bool) (n : ℕ) → digit flip (digit flip n) ≡ n % 128
digit-digit false n = omega arith
digit-digit true n = omega arith

digit-digit_more : (flip : Bool) (n : ℕ) → digit flip (digit flip n + 128) ≡ n % 128
digit-digit_more false n = omega arith
digit-digit_more true n = omega arith

pub value-leb_digits : (flip : Bool) (count n : ℕ) → n < 128 ^ count → digits_value flip (leb_digits flip count n) ≡ n
value-leb_digits flip zero n fits = omega arith
value-leb_digits flip (suc zero) n fits = omega (arith, digit-digit flip n)
value-leb_digits flip (suc (suc count)) n fits =
    let h = value-leb_digits flip (suc count) (n / 128) (omega (arith, pow-suc 128 (suc count))) in
    omega (arith, digit-digit_more flip n)

pub sleb_value-leb_digits : (count n : ℕ) → 2 * n < 128 ^ count → sleb_value (leb_digits false count n) ≡ pos n
sleb_value-leb_digits count n fits =
    let value = value-leb_digits false count n (omega arith) in
    let len = length-leb_digits false count n in
    rw (value, len, lt-ltb (2 * n) (128 ^ count) fits) refl

pub sleb_value-leb_digits_flipped : (count n : ℕ) → 0 < count → 2 * n < 128 ^ count → sleb_value (leb_digits true count n) ≡ negsuc n
sleb_value-leb_digits_flipped zero n some fits = absurd (omega arith)
sleb_value-leb_digits_flipped (suc count) n some fits =
    let value = value-leb_digits true (suc count) n (omega arith) in
    let all = rw (length-leb_digits true (suc count) n) at (value_complement (leb_digits true (suc count) n)) in
    sleb_value_if_above (leb_digits true (suc count) n) (rw (length-leb_digits true (suc count) n) (omega (arith, pow-suc 128 count)))
    ∙ rw value refl

-- four padded digits mean the number
pub value-four_digits : (n : ℕ) → n < 2 ^ 28 → digits_value false (leb_digits false 4 n) ≡ n
value-four_digits n small = value-leb_digits false 4 n small
