-- Of which kinds the faults of a reading are: those of its parts.
use Rattle.std.proofs.Common.{◌≡◌, ℕ, zero, suc, Bool, true, false, List, [], ◌∷◌, ◌++◌, length, take, Option, Some, None, Result, Ok, Err, refl, subst}
use Rattle.std.specs.Prelude.{◌+◌, ◌-◌, ◌^◌, nat_lt, if◌then◌else◌}
use Rattle.ds_base.specs.declared.fault.Fault.{Fault}
use Rattle.ds_base.specs.declared.fault.Kind.{Kind}
use Rattle.ds_base.specs.declared.fault.Kind.TheVariants.{Truncated, LebTooWide}
use Rattle.ds_base.specs.Leb.{uleb_value, sleb_value, fits_i64}
use Rattle.ds_base.specs.Spot.{Spot, rest, after, fault_at}
use Rattle.ds_base.specs.Reading.{◌>>=◌, refuse_if, or_fault, index_below, bytes_at, number_at, text_at, leb_at, uleb_at, sleb_at, items_at}

-- the kind of each fault has P
abbrev pub FaultsAre : {A : Type 0} → (Kind → Type 0) → Result A Fault → Type 0
FaultsAre P reading = (f : Fault) → reading ≡ Err f → P f.kind

abbrev failed : {A : Type 0} → Fault → Result A Fault
failed f = Err f

same_fault : {A : Type 0} (f g : Fault) → failed {A = A} f ≡ failed g → f ≡ g
same_fault f g e = cc

-- ---- steps

pub ok_kinds : {A : Type 0} (P : Kind → Type 0) (x : A) → FaultsAre P (Ok x)
ok_kinds P x f e = absurd cc

pub err_kinds : {A : Type 0} (P : Kind → Type 0) (f : Fault) → P f.kind → FaultsAre P (failed {A = A} f)
err_kinds {A = A} P f is g e = subst (λ (x : Fault). P x.kind) (same_fault {A = A} f g e) is

-- one reading after another
pub bind_kinds : {A B : Type 0} (P : Kind → Type 0) (r : Result A Fault) (f : A → Result B Fault) → FaultsAre P r → ((x : A) → FaultsAre P (f x)) → FaultsAre P (r >>= f)
bind_kinds P (Ok x) f first later = later x
bind_kinds {B = B} P (Err g) f first later = err_kinds {A = B} P g (first g refl)

-- the same, where what follows is tried only behind what was read
pub then_kinds : {A B : Type 0} (P : Kind → Type 0) (r : Result A Fault) (f : A → Result B Fault) → FaultsAre P r → ((x : A) → r ≡ Ok x → FaultsAre P (f x)) → FaultsAre P (r >>= f)
then_kinds P (Ok x) f first later = later x refl
then_kinds {B = B} P (Err g) f first later = err_kinds {A = B} P g (first g refl)

pub refuse_kinds : (P : Kind → Type 0) (b : Bool) (f : Fault) → P f.kind → FaultsAre P (refuse_if b f)
refuse_kinds P true f is = err_kinds P f is
refuse_kinds P false f is = ok_kinds P tt

pub either_kinds : {A : Type 0} (P : Kind → Type 0) (b : Bool) (x y : Result A Fault) → FaultsAre P x → FaultsAre P y → FaultsAre P (if b then x else y)
either_kinds P true x y first other = first
either_kinds P false x y first other = other

pub found_kinds : {A : Type 0} (P : Kind → Type 0) (o : Option A) (f : Fault) → P f.kind → FaultsAre P (or_fault o f)
found_kinds P (Some x) f is = ok_kinds P x
found_kinds {A = A} P None f is = err_kinds {A = A} P f is

-- ---- items

pub bytes_kinds : (P : Kind → Type 0) (n : ℕ) (s : Spot) → P Truncated → FaultsAre P (bytes_at n s)
unfolding bytes_at
bytes_kinds P n s cut = either_kinds P (nat_lt (s.end - s.place) n) _ _ (err_kinds P (fault_at s Truncated) cut) (ok_kinds P (take n (rest s), after s n))

pub number_kinds : (P : Kind → Type 0) (n : ℕ) (s : Spot) → P Truncated → FaultsAre P (number_at n s)
unfolding number_at
number_kinds P n s cut = either_kinds P (nat_lt (s.end - s.place) n) _ _ (err_kinds P (fault_at s Truncated) cut) (ok_kinds P _)

pub text_kinds : (P : Kind → Type 0) (s : Spot) → P Truncated → FaultsAre P (text_at s)
unfolding text_at
text_kinds P s cut = bind_kinds P (or_fault (index_below 1 (rest s)) (fault_at s Truncated)) _ (found_kinds P (index_below 1 (rest s)) (fault_at s Truncated) cut) (λ n. ok_kinds P (take n (rest s), after s (n + 1)))

leb_kinds : (P : Kind → Type 0) (s : Spot) → P Truncated → FaultsAre P (leb_at s)
unfolding leb_at
leb_kinds P s cut = bind_kinds P (or_fault (index_below 128 (rest s)) (fault_at s Truncated)) _ (found_kinds P (index_below 128 (rest s)) (fault_at s Truncated) cut) (λ n. ok_kinds P (take (n + 1) (rest s)))

pub uleb_kinds : (P : Kind → Type 0) (s : Spot) → P Truncated → P LebTooWide → FaultsAre P (uleb_at s)
unfolding uleb_at
uleb_kinds P s cut wide = bind_kinds P (leb_at s) _ (leb_kinds P s cut)
    (λ bytes. either_kinds P (nat_lt (uleb_value bytes) (2 ^ 64)) _ _ (ok_kinds P (uleb_value bytes, after s (length bytes))) (err_kinds P (fault_at s LebTooWide) wide))

pub sleb_kinds : (P : Kind → Type 0) (s : Spot) → P Truncated → P LebTooWide → FaultsAre P (sleb_at s)
unfolding sleb_at
sleb_kinds P s cut wide = bind_kinds P (leb_at s) _ (leb_kinds P s cut)
    (λ bytes. either_kinds P (fits_i64 (sleb_value bytes)) _ _ (ok_kinds P (sleb_value bytes, after s (length bytes))) (err_kinds P (fault_at s LebTooWide) wide))

-- so many items
pub items_kinds : {A S : Type 0} (P : Kind → Type 0) (read : S → Result (A × S) Fault) → ((s : S) → FaultsAre P (read s)) → (count : ℕ) (before : List A) (s : S) → FaultsAre P (items_at read count before s)
items_kinds P read each zero before s = ok_kinds P (before, s)
items_kinds P read each (suc count) before s = bind_kinds P (read s) (λ item. items_at read count (before ++ item.0 ∷ []) item.1) (each s) (λ item. items_kinds P read each count (before ++ item.0 ∷ []) item.1)
