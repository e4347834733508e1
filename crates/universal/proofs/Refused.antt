-- Why a universal file is refused, and of which kinds its faults are.
use Rattle.std.proofs.Common.{◌≡◌, ◌⊎◌, inl, inr, ℕ, zero, suc, ◌+◌, ◌<◌, ◌≤◌, ◌==◌, ◌||◌, not, Bool, true, false, List, [], ◌∷◌, ◌++◌, length, Option, Some, None, Result, Ok, Err, refl, sym, subst, ◌∙◌, arith}
use Rattle.std.specs.Prelude.{nat_lt, if◌then◌else◌}
use Rattle.std.specs.List.{Contains}
use Rattle.std.proofs.lemmas.Bool.{ltb-true, ltb-false, eqb-true, eqb-false, or_parts, cases_lt}
use Rattle.ds_base.specs.declared.fault.Fault.{Fault}
use Rattle.ds_base.specs.declared.fault.Kind.{Kind}
use Rattle.ds_base.specs.declared.fault.Kind.TheVariants as kinds
use Rattle.ds_base.specs.MachONumbers.{FAT_HEADER_SIZE, FAT_ARCH_SIZE}
use Rattle.ds_base.specs.Reading.{◌>>=◌, refuse_if, or_fault, items_at}
use Rattle.ds_base.proofs.FaultKinds.{FaultsAre, ok_kinds, bind_kinds, found_kinds}
use Rattle.ds_base.proofs.Passing.{ok_is, passed}
use Rattle.universal.specs.declared.choosing.Arch.{Arch}
use Rattle.universal.specs.declared.records.Slice.{Slice}
use Rattle.universal.specs.Records.{IsWithin, all_slices, count_of, head_size, header_fault, is_universal, number_of, slice_at, slice_of, slices_by, slices_of}
use Rattle.universal.specs.Choice.{chosen, cut_to, slice_bytes, slice_for}
use Rattle.universal.specs.Laws.{IsCount, Refuses, cut_header, wrong_count, cut_records, passing_slice}

-- ---- causes

-- each fault has P
abbrev FaultsHave : {A : Type 0} → (Fault → Type 0) → Result A Fault → Type 0
FaultsHave P reading = (f : Fault) → reading ≡ Err f → P f

abbrev failed : {A : Type 0} → Fault → Result A Fault
failed f = Err f

same_fault : {A : Type 0} (f g : Fault) → failed {A = A} f ≡ failed g → f ≡ g
same_fault f g e = cc

none_fail : {A : Type 0} (P : Fault → Type 0) (x : A) → FaultsHave P (Ok x)
none_fail P x f e = absurd cc

one_fails : {A : Type 0} (P : Fault → Type 0) (f : Fault) → P f → FaultsHave P (failed {A = A} f)
one_fails {A = A} P f is g e = subst P (same_fault {A = A} f g e) is

-- what follows is tried behind what was read
then_fail : {A B : Type 0} (P : Fault → Type 0) (r : Result A Fault) (f : A → Result B Fault) → FaultsHave P r → ((x : A) → r ≡ Ok x → FaultsHave P (f x)) → FaultsHave P (r >>= f)
then_fail P (Ok x) f first later = later x refl
then_fail {B = B} P (Err g) f first later = one_fails {A = B} P g (first g refl)

-- behind a test that let through
test_fails : {A : Type 0} (P : Fault → Type 0) (b : Bool) (f : Fault) (next : Result A Fault) → (b ≡ true → P f) → (b ≡ false → FaultsHave P next) → FaultsHave P (refuse_if b f >>= λ u. next)
test_fails {A = A} P true f next is later = one_fails {A = A} P f (is refl)
test_fails P false f next is later = later refl

count_is : (n : ℕ) → (n == 0 || nat_lt 16 n) ≡ true → (n ≡ 0) ⊎ (16 < n)
count_is n = by (n == 0) (nat_lt 16 n) refl refl
  where
    by : (none many : Bool) → (n == 0) ≡ none → nat_lt 16 n ≡ many → (none || many) ≡ true → (n ≡ 0) ⊎ (16 < n)
    by true many none_is many_is e = inl (eqb-true n 0 none_is)
    by false many none_is many_is e = inr (ltb-true 16 n (many_is ∙ e))

right_count : (n : ℕ) → (n == 0 || nat_lt 16 n) ≡ false → IsCount n
right_count n e =
    let p = or_parts (n == 0) (nat_lt 16 n) e in
    let some : (n ≡ 0 → ⊥) = eqb-false n 0 p.0 in
    (omega (arith, some), ltb-false 16 n p.1)

counting_fails : (bytes : List ℕ) → FaultsHave (Refuses bytes) (count_of bytes)
unfolding count_of
counting_fails bytes =
    test_fails (Refuses bytes) (nat_lt (length bytes) FAT_HEADER_SIZE) (header_fault kinds.Truncated 0) _ (λ e. cut_header (ltb-true _ _ e))
    (λ long. test_fails (Refuses bytes) (number_of 4 bytes == 0 || nat_lt 16 (number_of 4 bytes)) (header_fault kinds.BadUniversal 4) _ (λ e. wrong_count (ltb-false _ _ long) (count_is (number_of 4 bytes) e))
    (λ few. test_fails (Refuses bytes) (nat_lt (length bytes) (head_size (number_of 4 bytes))) (header_fault kinds.Truncated 0) _ (λ e. cut_records (ltb-false _ _ long) (right_count (number_of 4 bytes) few) (ltb-true _ _ e))
    (λ fits. none_fail (Refuses bytes) (number_of 4 bytes))))

-- one more record whose slice lies in the file
one_within : (bytes : List ℕ) (i : ℕ) → ((k : ℕ) → k < i → IsWithin bytes (slice_of bytes (head_size k))) → IsWithin bytes (slice_of bytes (head_size i)) → (k : ℕ) → k < suc i → IsWithin bytes (slice_of bytes (head_size k))
one_within bytes i before this k lt = elim (cases_lt k i) [
  | inl earlier ↦ before k earlier
  | inr le ↦ let same : i ≡ k = omega (arith, lt, le) in subst (λ (n : ℕ). IsWithin bytes (slice_of bytes (head_size n))) same this
]

-- a record whose slice lies in the file
pub record IsRead (bytes : List ℕ) (at : ℕ) (item : Slice × ℕ) : Type 0 where
  pub within : IsWithin bytes (slice_of bytes at)
  pub is : (slice_of bytes at, at + FAT_ARCH_SIZE) ≡ item

guard : (b : Bool) (f : Fault) (x y : Slice × ℕ) → (refuse_if b f >>= λ u. Ok x) ≡ Ok y → (b ≡ false) × (x ≡ y)
guard true f x y e = absurd cc
guard false f x y e = (refl, cc)

pub slice_read : (bytes : List ℕ) (at : ℕ) (item : Slice × ℕ) → slice_at bytes at ≡ Ok item → IsRead bytes at item
unfolding slice_at
slice_read bytes at item is =
    let s = slice_of bytes at in
    let g = guard (nat_lt (length bytes) (s.offset + s.size)) (header_fault kinds.BadUniversal at) (s, at + FAT_ARCH_SIZE) item is in
    record { within = ltb-false _ _ g.0; is = g.1 }

slice_fails : (bytes : List ℕ) (i : ℕ) → IsCount (number_of 4 bytes) → head_size (number_of 4 bytes) ≤ length bytes → i < number_of 4 bytes → ((k : ℕ) → k < i → IsWithin bytes (slice_of bytes (head_size k))) → FaultsHave (Refuses bytes) (slice_at bytes (head_size i))
unfolding slice_at
slice_fails bytes i count fits few within =
    let s = slice_of bytes (head_size i) in
    test_fails (Refuses bytes) (nat_lt (length bytes) (s.offset + s.size)) (header_fault kinds.BadUniversal (head_size i)) _ (λ e. passing_slice i count fits few within (ltb-true _ _ e))
    (λ inside. none_fail (Refuses bytes) (s, head_size i + FAT_ARCH_SIZE))

next_place : (i : ℕ) → head_size (suc i) ≡ head_size i + FAT_ARCH_SIZE
next_place i = omega arith

records_fail : (bytes : List ℕ) (left i : ℕ) (before : List Slice) → IsCount (number_of 4 bytes) → head_size (number_of 4 bytes) ≤ length bytes → i + left ≤ number_of 4 bytes → ((k : ℕ) → k < i → IsWithin bytes (slice_of bytes (head_size k)))
    → FaultsHave (Refuses bytes) (items_at (slice_at bytes) left before (head_size i))
records_fail bytes zero i before count fits few within = none_fail (Refuses bytes) (before, head_size i)
records_fail bytes (suc left) i before count fits few within =
    let s = slice_of bytes (head_size i) in
    then_fail (Refuses bytes) (slice_at bytes (head_size i)) (λ item. items_at (slice_at bytes) left (before ++ item.0 ∷ []) item.1) (slice_fails bytes i count fits (omega (arith, few)) within)
    (λ item is.
    let read = slice_read bytes (head_size i) item is in
    subst (λ (p : Slice × ℕ). FaultsHave (Refuses bytes) (items_at (slice_at bytes) left (before ++ p.0 ∷ []) p.1)) read.is
    (subst (λ (at : ℕ). FaultsHave (Refuses bytes) (items_at (slice_at bytes) left (before ++ s ∷ []) at)) (next_place i)
    (records_fail bytes left (suc i) (before ++ s ∷ []) count fits (omega (arith, few)) (one_within bytes i within read.within))))

-- the count that was read
pub record IsCounted (bytes : List ℕ) (count : ℕ) : Type 0 where
  pub is : count ≡ number_of 4 bytes
  pub some : 1 ≤ count
  pub few : count ≤ 16
  pub fits : head_size count ≤ length bytes

pub count_read : (bytes : List ℕ) (count : ℕ) → count_of bytes ≡ Ok count → IsCounted bytes count
unfolding count_of
count_read bytes count e =
    let n = number_of 4 bytes in
    let long = passed (nat_lt (length bytes) FAT_HEADER_SIZE) (header_fault kinds.Truncated 0) _ count e in
    let few = passed (n == 0 || nat_lt 16 n) (header_fault kinds.BadUniversal 4) _ count long.1 in
    let fits = passed (nat_lt (length bytes) (head_size n)) (header_fault kinds.Truncated 0) _ count few.1 in
    let same : n ≡ count = ok_is n count fits.1 in
    let right = right_count n few.0 in
    let inside : head_size n ≤ length bytes = ltb-false _ _ fits.0 in
    record { is = sym same; some = omega (arith, same, right.0); few = omega (arith, same, right.1); fits = omega (arith, same, inside) }

all_fail : (bytes : List ℕ) → FaultsHave (Refuses bytes) (all_slices bytes)
all_fail bytes =
    then_fail (Refuses bytes) (count_of bytes) (λ count. slices_by bytes count >>= λ slices. Ok (Some slices)) (counting_fails bytes)
    (λ count is.
    let c = count_read bytes count is in
    then_fail (Refuses bytes) (slices_by bytes count) (λ slices. Ok (Some slices))
    (then_fail (Refuses bytes) (items_at (slice_at bytes) count [] FAT_HEADER_SIZE) (λ read. Ok read.0) (records_fail bytes count 0 [] (omega (arith, c.is, c.some), omega (arith, c.is, c.few)) (omega (arith, c.is, c.fits)) (omega (arith, c.is)) (λ k lt. absurd (omega (arith, lt)))) (λ read e. none_fail (Refuses bytes) read.0))
    (λ slices e. none_fail (Refuses bytes) (Some slices)))

pub refusal_has_cause : (bytes : List ℕ) (f : Fault) → slices_of bytes ≡ Err f → Refuses bytes f
unfolding slices_of
refusal_has_cause bytes = by (not (is_universal bytes))
  where
    by : (b : Bool) → FaultsHave (Refuses bytes) (if b then Ok None else all_slices bytes)
    by true = none_fail (Refuses bytes) None
    by false = all_fail bytes

-- ---- kinds

abbrev OfSlices : Kind → Type 0
OfSlices = Contains (kinds.Truncated ∷ kinds.BadUniversal ∷ [])

abbrev OfSlice : Kind → Type 0
OfSlice = Contains (kinds.Truncated ∷ kinds.BadUniversal ∷ kinds.WrongCpu ∷ [])

cause_kinds : (bytes : List ℕ) (f : Fault) → Refuses bytes f → OfSlices f.kind × OfSlice f.kind
cause_kinds bytes f (cut_header h) = ((0, omega arith, refl), (0, omega arith, refl))
cause_kinds bytes f (wrong_count long h) = ((1, omega arith, refl), (1, omega arith, refl))
cause_kinds bytes f (cut_records long count h) = ((0, omega arith, refl), (0, omega arith, refl))
cause_kinds bytes f (passing_slice i count fits lt before passes) = ((1, omega arith, refl), (1, omega arith, refl))

pub slices_kinds : (bytes : List ℕ) (f : Fault) → slices_of bytes ≡ Err f → OfSlices f.kind
slices_kinds bytes f e = (cause_kinds bytes f (refusal_has_cause bytes f e)).0

cut_kinds : (arch : Arch) (file : List ℕ) (slices : Option (List Slice)) → FaultsAre OfSlice (cut_to arch file slices)
cut_kinds arch file None = ok_kinds OfSlice file
cut_kinds arch file (Some slices) =
    bind_kinds OfSlice (or_fault (chosen arch slices) (header_fault kinds.WrongCpu 4)) (λ slice. Ok (slice_bytes file slice)) (found_kinds OfSlice (chosen arch slices) (header_fault kinds.WrongCpu 4) (2, omega arith, refl))
    (λ slice. ok_kinds OfSlice (slice_bytes file slice))

pub slice_kinds : (arch : Arch) (file : List ℕ) (f : Fault) → slice_for arch file ≡ Err f → OfSlice f.kind
unfolding slice_for
slice_kinds arch file = bind_kinds OfSlice (slices_of file) (cut_to arch file) (λ f e. (cause_kinds file f (refusal_has_cause file f e)).1) (cut_kinds arch file)
