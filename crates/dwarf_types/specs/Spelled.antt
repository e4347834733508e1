-- How plain items are spelled in debug sections. Readers take more spellings than writers give: a LEB number may be padded.
use Rattle.std.specs.Prelude.{◌≡◌, ◌<◌, ◌^◌, ◌++◌, ℕ, ℤ, List, [], ◌∷◌, length, IsTrue}
use Rattle.byteorder.specs.Endian.{little_bytes}
use Rattle.ds_base.specs.Leb.{uleb_value, sleb_value, fits_i64, IsSpelled}

-- each is below 256
abbrev pub AreBytes : List ℕ → Type 0
AreBytes [] = Unit {0}
AreBytes (b ∷ bytes) = (b < 256) × AreBytes bytes

-- each is such a byte, and none is zero
abbrev pub AreTextBytes : List ℕ → Type 0
AreTextBytes [] = Unit {0}
AreTextBytes (b ∷ bytes) = ((0 < b) × (b < 256)) × AreTextBytes bytes

-- a LEB number of 64 bits without a sign
pub record IsUleb (bytes : List ℕ) (n : ℕ) : Type 0 where
  pub spelled : IsSpelled bytes
  pub value : uleb_value bytes ≡ n
  pub fits : n < 2 ^ 64

-- a LEB number of 64 bits with a sign
pub record IsSleb (bytes : List ℕ) (z : ℤ) : Type 0 where
  pub spelled : IsSpelled bytes
  pub value : sleb_value bytes ≡ z
  pub fits : IsTrue (fits_i64 z)

-- a number in so many bytes, the lowest first
pub record IsNumber (width : ℕ) (bytes : List ℕ) (n : ℕ) : Type 0 where
  pub is : bytes ≡ little_bytes width n
  pub fits : n < 256 ^ width

-- so many bytes as they are
pub record IsCopy (count : ℕ) (bytes copy : List ℕ) : Type 0 where
  pub is : bytes ≡ copy
  pub sound : AreBytes copy
  pub len : length copy ≡ count

-- a text and the zero byte that ends it
pub record IsText (bytes text : List ℕ) : Type 0 where
  pub is : bytes ≡ text ++ 0 ∷ []
  pub sound : AreTextBytes text

-- first the one and then the other
pub record InTurn (First Then : List ℕ → Type 0) (bytes : List ℕ) : Type 0 where
  pub front : List ℕ
  pub back : List ℕ
  pub is : bytes ≡ front ++ back
  pub first : First front
  pub second : Then back

-- bytes that spell what a value is made of
pub record Made {A B : Type 0} (made : A → B) (Spells : List ℕ → A → Type 0) (bytes : List ℕ) (b : B) : Type 0 where
  pub of : A
  pub spells : Spells bytes of
  pub is : b ≡ made of

-- first a spelling of some value, and then what goes with that value
pub record Followed {A B : Type 0} (First : List ℕ → A → Type 0) (Then : A → List ℕ → B → Type 0) (bytes : List ℕ) (b : B) : Type 0 where
  pub value : A
  pub front : List ℕ
  pub back : List ℕ
  pub is : bytes ≡ front ++ back
  pub first : First front value
  pub second : Then value back b
