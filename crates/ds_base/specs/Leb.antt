-- LEB numbers (DWARF 4, section 7.6): what a spelling means, and the shortest one.
use Rattle.std.specs.Prelude.{◌≡◌, ℕ, zero, suc, ◌+◌, ◌-◌, ◌*◌, ◌/◌, ◌%◌, ◌^◌, ◌<◌, ◌≤◌, Bool, true, false, ℤ, pos, negsuc, ◌-ℤ◌, List, [], ◌∷◌, length, nat_lt, if◌then◌else◌}

-- A spelling is bytes of at least 128 and then one below 128. Its digits have seven bits each, the lowest first.

-- the digit of a byte, or its complement
abbrev pub digit : Bool → ℕ → ℕ
digit false b = b % 128
digit true b = 127 - b % 128

-- the sum of the digits: the first times 1, the next times 128, and so on
abbrev pub digits_value : Bool → List ℕ → ℕ
digits_value flip [] = 0
digits_value flip (b ∷ bs) = digit flip b + 128 * digits_value flip bs

-- what an unsigned spelling means
abbrev pub uleb_value : List ℕ → ℕ
uleb_value bs = digits_value false bs

-- what a signed spelling means: the digits as two's complement
abbrev pub sleb_value : List ℕ → ℤ
sleb_value bs = if nat_lt (2 * uleb_value bs) (128 ^ length bs) then pos (uleb_value bs) else (pos (uleb_value bs) -ℤ pos (128 ^ length bs))

abbrev pub fits_i64 : ℤ → Bool
fits_i64 (pos n) = nat_lt n (2 ^ 63)
fits_i64 (negsuc n) = nat_lt n (2 ^ 63)

-- how many digits a number wants; every number below 2^64 has at most ten
abbrev pub uleb_len_of : ℕ → ℕ
uleb_len_of n =
    if nat_lt n (2 ^ 7) then 1 else if nat_lt n (2 ^ 14) then 2 else if nat_lt n (2 ^ 21) then 3
    else if nat_lt n (2 ^ 28) then 4 else if nat_lt n (2 ^ 35) then 5 else if nat_lt n (2 ^ 42) then 6
    else if nat_lt n (2 ^ 49) then 7 else if nat_lt n (2 ^ 56) then 8 else if nat_lt n (2 ^ 63) then 9 else 10

-- a number in so many digits, each but the last with the bit that says that more follow
abbrev pub leb_digits : Bool → ℕ → ℕ → List ℕ
leb_digits flip zero n = []
leb_digits flip (suc zero) n = digit flip n ∷ []
leb_digits flip (suc (suc count)) n = (digit flip n + 128) ∷ leb_digits flip (suc count) (n / 128)

-- the shortest spelling without a sign
unfoldable pub uleb : ℕ → List ℕ
uleb n = leb_digits false (uleb_len_of n) n

-- how many digits a signed number wants: its sign takes a bit
abbrev pub sleb_len_of : ℤ → ℕ
sleb_len_of (pos n) = uleb_len_of (2 * n)
sleb_len_of (negsuc n) = uleb_len_of (2 * n)

-- the shortest spelling with a sign: below zero the digits of the complement, complemented
unfoldable pub sleb : ℤ → List ℕ
sleb (pos n) = leb_digits false (uleb_len_of (2 * n)) n
sleb (negsuc n) = leb_digits true (uleb_len_of (2 * n)) n

-- bytes that spell one LEB number: all but the last have the bit that says that more follow
pub data IsSpelled : List ℕ → Type 0 where
  last : (b : ℕ) → b < 128 → IsSpelled (b ∷ [])
  more : (b : ℕ) (bs : List ℕ) → 128 ≤ b → b < 256 → IsSpelled bs → IsSpelled (b ∷ bs)

-- a spelling of a number, and no shorter one means it
pub record IsShortestUleb (n : ℕ) (bytes : List ℕ) : Type 0 where
  pub spelled : IsSpelled bytes
  pub value : uleb_value bytes ≡ n
  pub shortest : (others : List ℕ) → IsSpelled others → uleb_value others ≡ n → length bytes ≤ length others

pub record IsShortestSleb (z : ℤ) (bytes : List ℕ) : Type 0 where
  pub spelled : IsSpelled bytes
  pub value : sleb_value bytes ≡ z
  pub shortest : (others : List ℕ) → IsSpelled others → sleb_value others ≡ z → length bytes ≤ length others
