-- Lists of bytes, put together of lists of bytes.
use Rattle.std.proofs.Common.{◌≡◌, ◌<◌, ◌+◌, ◌/◌, ◌^◌, ◌++◌, ◌∷◌, ℕ, zero, suc, ℤ, pos, negsuc, Bool, true, false, List, [], All, replicate, flat_map, if◌then◌else◌, subst, sym, arith}
use Rattle.std.specs.Int.{byte_at, bytes_low_first}
use Rattle.std.specs.List.{enumerate_from}
use Rattle.std.proofs.lemmas.List.Elements.{All-head, All-tail}
use Rattle.byteorder.specs.Endian.{little_bytes}
use Rattle.ds_base.specs.Leb.{IsSpelled, last, more, digit, leb_digits, sleb, uleb}
use Rattle.ds_base.specs.Texts.{ended, section_of}
use Rattle.dwarf_types.specs.Spelled.{AreBytes, AreTextBytes}

-- The same as a type of its own, from which the list is found.
pub record Bytes (bytes : List ℕ) : Type 0 where
  pub are : AreBytes bytes

pub given : (bytes : List ℕ) → AreBytes bytes → Bytes bytes
given bytes are = record { are = are }

pub same_bytes : {xs ys : List ℕ} → xs ≡ ys → Bytes ys → Bytes xs
same_bytes is are = subst Bytes (sym is) are

-- ---- lists

pub none : Bytes []
none = record { are = tt }

pub byte : (b : ℕ) {bytes : List ℕ} → b < 256 → Bytes bytes → Bytes (b ∷ bytes)
byte b lt rest = record { are = (lt, rest.are) }

append_are : (xs ys : List ℕ) → AreBytes xs → AreBytes ys → AreBytes (xs ++ ys)
append_are [] ys x y = y
append_are (b ∷ xs) ys x y = (x.0, append_are xs ys x.1 y)

pub both : {xs ys : List ℕ} → Bytes xs → Bytes ys → Bytes (xs ++ ys)
both {xs = xs} {ys = ys} x y = record { are = append_are xs ys x.are y.are }

pub zeros : (n : ℕ) → Bytes (replicate n 0)
zeros zero = none
zeros (suc n) = byte 0 (omega arith) (zeros n)

pub either : (b : Bool) {xs ys : List ℕ} → Bytes xs → Bytes ys → Bytes (if b then xs else ys)
either true x y = x
either false x y = y

-- ---- what each item of a list has

pub each_has : {A : Type 0} (f : A → List ℕ) → ((a : A) → Bytes (f a)) → (xs : List A) → Bytes (flat_map f xs)
each_has f are [] = none
each_has f are (x ∷ xs) = both (are x) (each_has f are xs)

pub all_have : {A : Type 0} (P : A → Type 0) (f : A → List ℕ) → ((a : A) → P a → Bytes (f a)) → (xs : List A) → All P xs → Bytes (flat_map f xs)
all_have P f are [] all = none
all_have P f are (x ∷ xs) all = both (are x (All-head P x xs all)) (all_have P f are xs (All-tail P x xs all))

-- the same of items with their numbers
pub numbered_have : {A : Type 0} (P : A → Type 0) (f : ℕ → A → List ℕ) → ((n : ℕ) (a : A) → P a → Bytes (f n a)) → (n : ℕ) (xs : List A) → All P xs → Bytes (flat_map (λ x. f x.0 x.1) (enumerate_from n xs))
numbered_have P f are n [] all = none
numbered_have P f are n (x ∷ xs) all = both (are n x (All-head P x xs all)) (numbered_have P f are (n + 1) xs (All-tail P x xs all))

-- ---- numbers

byte_small : (i n : ℕ) → byte_at i n < 256
byte_small zero n = omega arith
byte_small (suc i) n = let m = n / 256 ^ suc i in omega arith

low_are : (i k n : ℕ) → Bytes (bytes_low_first i k n)
low_are i zero n = none
low_are i (suc k) n = byte (byte_at i n) (byte_small i n) (low_are (suc i) k n)

pub number : (width n : ℕ) → Bytes (little_bytes width n)
number width n = low_are 0 width n

digit_small : (flip : Bool) (n : ℕ) → digit flip n < 128
digit_small false n = omega arith
digit_small true n = omega arith

pub digits : (flip : Bool) (count n : ℕ) → Bytes (leb_digits flip count n)
digits flip zero n = none
digits flip (suc zero) n = let small = digit_small flip n in byte (digit flip n) (omega arith) none
digits flip (suc (suc count)) n = let small = digit_small flip n in byte (digit flip n + 128) (omega arith) (digits flip (suc count) (n / 128))

pub unsigned : (n : ℕ) → Bytes (uleb n)
unfolding uleb
unsigned n = digits false _ n

pub signed : (z : ℤ) → Bytes (sleb z)
unfolding sleb
signed (pos n) = digits false _ n
signed (negsuc n) = digits true _ n

pub spelled : (bytes : List ℕ) → IsSpelled bytes → Bytes bytes
spelled _ (last b lt) = byte b (omega arith) none
spelled _ (more b bs ge lt is) = byte b lt (spelled bs is)

-- ---- texts

pub text : (t : List ℕ) → AreTextBytes t → Bytes t
text [] are = none
text (b ∷ t) are = byte b are.0.1 (text t are.1)

pub ended_text : (t : List ℕ) → AreTextBytes t → Bytes (ended t)
ended_text t are = both (text t are) (byte 0 (omega arith) none)

pub texts : (all : List (List ℕ)) → All AreTextBytes all → Bytes (section_of all)
texts all are = all_have AreTextBytes ended ended_text all are
