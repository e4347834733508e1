-- The slices of a universal file lie in it; a file that isn't universal stands for itself.
use Rattle.std.proofs.Common.{◌≡◌, ℕ, zero, suc, not, Bool, true, false, List, [], ◌∷◌, ◌++◌, length, Option, Some, None, Result, Ok, Err, refl, sym, ap, subst, ◌∙◌, append_assoc, append-nil, arith}
use Rattle.std.specs.Prelude.{IfOk, IfSome, if◌then◌else◌}
use Rattle.std.specs.List.{AllByRecursion}
use Rattle.std.proofs.lemmas.List.Elements.{All-from_recursion}
use Rattle.ds_base.specs.declared.fault.Fault.{Fault}
use Rattle.ds_base.specs.declared.fault.ReadError.{ReadError}
use Rattle.ds_base.specs.declared.fault.ReadError.TheVariants as errors
use Rattle.ds_base.specs.MachONumbers.{FAT_HEADER_SIZE}
use Rattle.ds_base.specs.Reading.{◌>>=◌, Gives, items_at}
use Rattle.ds_base.proofs.Passing.{bind_ok, ok_is}
use Rattle.universal.specs.declared.choosing.Arch.{Arch}
use Rattle.universal.specs.declared.records.Slice.{Slice}
use Rattle.universal.specs.Records.{AreWithin, IsWithin, all_slices, count_of, is_universal, slice_at, slices_by, slices_of}
use Rattle.universal.specs.Choice.{slice_for}
use Rattle.universal.proofs.Refused.{count_read, slice_read}

-- what was read behind some slices
record AreRead (bytes : List ℕ) (count : ℕ) (before slices : List Slice) : Type 0 where
  more : List Slice
  is : slices ≡ before ++ more
  len : length more ≡ count
  each : AllByRecursion (IsWithin bytes) more

items_within : (bytes : List ℕ) (count : ℕ) (before : List Slice) (at : ℕ) (read : List Slice × ℕ) → items_at (slice_at bytes) count before at ≡ Ok read → AreRead bytes count before read.0
items_within bytes zero before at read e = record { more = []; is = ap (λ (p : List Slice × ℕ). p.0) (sym (ok_is (before, at) read e)) ∙ sym (append-nil before); len = refl; each = tt }
items_within bytes (suc count) before at read e =
    let one = bind_ok (slice_at bytes at) (λ item. items_at (slice_at bytes) count (before ++ item.0 ∷ []) item.1) read e in
    let is = slice_read bytes at one.0 one.1 in
    let here : IsWithin bytes one.0.0 = subst (λ (p : Slice × ℕ). IsWithin bytes p.0) is.is is.within in
    let rest = items_within bytes count (before ++ one.0.0 ∷ []) one.0.1 read one.2 in
    record { more = one.0.0 ∷ rest.more; is = rest.is ∙ append_assoc before (one.0.0 ∷ []) rest.more; len = let len = rest.len in omega (arith, len); each = (here, rest.each) }

abbrev some_ok : List Slice → Result (Option (List Slice)) Fault
some_ok x = Ok (Some x)

some_is : (x y : List Slice) → some_ok x ≡ some_ok y → x ≡ y
some_is x y e = cc

all_within : (bytes : List ℕ) (slices : List Slice) → all_slices bytes ≡ Ok (Some slices) → AreWithin bytes slices
all_within bytes slices e =
    let count = bind_ok (count_of bytes) (λ count. slices_by bytes count >>= λ slices. Ok (Some slices)) (Some slices) e in
    let c = count_read bytes count.0 count.1 in
    let by = bind_ok (slices_by bytes count.0) (λ slices. Ok (Some slices)) (Some slices) count.2 in
    let items = bind_ok (items_at (slice_at bytes) count.0 [] FAT_HEADER_SIZE) (λ read. Ok read.0) by.0 by.1 in
    let read = items_within bytes count.0 [] FAT_HEADER_SIZE items.0 items.1 in
    let same : read.more ≡ slices = sym read.is ∙ ok_is items.0.0 by.0 items.2 ∙ some_is by.0 slices (by.2) in
    let len : length slices ≡ count.0 = ap length (sym same) ∙ read.len in
    record { some = omega (arith, len, c.some); few = omega (arith, len, c.few); each = All-from_recursion (IsWithin bytes) slices (subst (AllByRecursion (IsWithin bytes)) same read.each) }

pub slices_within : (bytes : List ℕ) (slices : List Slice) → slices_of bytes ≡ Ok (Some slices) → AreWithin bytes slices
unfolding slices_of
slices_within bytes slices = by (not (is_universal bytes))
  where
    by : (b : Bool) → (if b then Ok None else all_slices bytes) ≡ Ok (Some slices) → AreWithin bytes slices
    by true e = absurd cc
    by false e = all_within bytes slices e

-- what a call gives
pub given_within : (bytes : List ℕ) (result : Result (Option (List Slice)) ReadError) → Gives (λ slices. slices) result (slices_of bytes) → IfOk result (λ found. IfSome found (AreWithin bytes))
given_within bytes (Ok (Some slices)) e = slices_within bytes slices e
given_within bytes (Ok None) e = tt
given_within bytes (Err (errors.Faulty f)) e = tt
given_within bytes (Err errors.NoMemory) e = tt

pub thin_slice : (arch : Arch) (file : List ℕ) → is_universal file ≡ false → slice_for arch file ≡ Ok file
unfolding slices_of slice_for
thin_slice arch file thin = rw thin refl
