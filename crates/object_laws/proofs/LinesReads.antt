-- What plain readers give from bytes: numbers that fit, texts without a zero byte, and bytes; and bytes are left.
use Rattle.std.proofs.Common.{◌≡◌, ℕ, ◌+◌, ◌-◌, ◌^◌, ◌<◌, ◌≤◌, Bool, true, false, ltb, List, length, take, drop, Ok, Err, refl, sym, ap, subst, ℤ}
use Rattle.std.specs.Prelude.{nat_lt, if◌then◌else◌}
use Rattle.std.proofs.lemmas.Bool.{ltb-false, ltb-true}
use Rattle.byteorder.specs.Endian.{little_number}
use Rattle.byteorder.specs.Numbers.{little_from-lt}
use Rattle.ds_base.specs.declared.fault.Fault.{Fault}
use Rattle.ds_base.specs.declared.fault.Kind.TheVariants as kinds
use Rattle.ds_base.specs.Spot.{Spot, rest, after, fault_at}
use Rattle.ds_base.specs.Leb.{uleb_value}
use Rattle.ds_base.specs.Reading.{or_fault, index_below, bytes_at, number_at, text_at, leb_at, uleb_at, sleb_at}
use Rattle.ds_base.proofs.Onward.{Onward, number_onward, bytes_onward, text_onward, uleb_onward, sleb_onward}
use Rattle.ds_base.proofs.Passing.{bind_ok, guard_ok, ok_is, found_ok}
use Rattle.dwarf_types.specs.Spelled.{AreBytes, AreTextBytes}
use Rattle.dwarf_types.proofs.Readers.{IsBytes, IsBytes-drop, IsBytes-take, AreBytes-from, Stands, stands_after, zero_at}

-- a cursor in bytes
abbrev pub Holds : Spot → Type 0
Holds s = IsBytes s.bytes

pub rest_holds : (s : Spot) → Holds s → IsBytes (rest s)
rest_holds s h = IsBytes-take (s.end - s.place) (drop s.place s.bytes) (IsBytes-drop s.place s.bytes h)

pub onward_holds : (s t : Spot) → Onward s t → Holds s → Holds t
onward_holds s t o h = subst IsBytes (sym (ap (λ (x : Spot). x.bytes) o.is)) h

-- ---- bytes are left

pub number_holds : (n : ℕ) (s : Spot) (y : ℕ × Spot) → Holds s → number_at n s ≡ Ok y → Holds y.1
number_holds n s y h e = onward_holds s y.1 (number_onward n s y e) h

pub bytes_hold : (n : ℕ) (s : Spot) (y : List ℕ × Spot) → Holds s → bytes_at n s ≡ Ok y → Holds y.1
bytes_hold n s y h e = onward_holds s y.1 (bytes_onward n s y e) h

pub text_holds : (s : Spot) (y : List ℕ × Spot) → Holds s → text_at s ≡ Ok y → Holds y.1
text_holds s y h e = onward_holds s y.1 (text_onward s y e) h

pub uleb_holds : (s : Spot) (y : ℕ × Spot) → Holds s → uleb_at s ≡ Ok y → Holds y.1
uleb_holds s y h e = onward_holds s y.1 (uleb_onward s y e) h

pub sleb_holds : (s : Spot) (y : ℤ × Spot) → Holds s → sleb_at s ≡ Ok y → Holds y.1
sleb_holds s y h e = onward_holds s y.1 (sleb_onward s y e) h

-- ---- what is read

pub number_below : (n : ℕ) (s : Spot) (y : ℕ × Spot) → Holds s → number_at n s ≡ Ok y → y.0 < 256 ^ n
unfolding number_at
number_below n s y h e =
    let g = guard_ok (ltb (s.end - s.place) n) (fault_at s kinds.Truncated) (little_number n (rest s), after s n) y e in
    subst (λ (p : ℕ × Spot). p.0 < 256 ^ n) g.1 (little_from-lt 0 n (rest s) (rest_holds s h))

pub bytes_are : (n : ℕ) (s : Spot) (y : List ℕ × Spot) → Holds s → bytes_at n s ≡ Ok y → AreBytes y.0
unfolding bytes_at
bytes_are n s y h e =
    let g = guard_ok (ltb (s.end - s.place) n) (fault_at s kinds.Truncated) (take n (rest s), after s n) y e in
    subst (λ (p : List ℕ × Spot). AreBytes p.0) g.1 (AreBytes-from (take n (rest s)) (IsBytes-take n (rest s) (rest_holds s h)))

pub text_is : (s : Spot) (y : List ℕ × Spot) → Holds s → text_at s ≡ Ok y → AreTextBytes y.0
unfolding text_at
text_is s y h e =
    let b = bind_ok (or_fault (index_below 1 (rest s)) (fault_at s kinds.Truncated)) (λ n. Ok (take n (rest s), after s (n + 1))) y e in
    let z = zero_at (rest s) b.0 (found_ok (index_below 1 (rest s)) (fault_at s kinds.Truncated) b.0 b.1) in
    subst (λ (p : List ℕ × Spot). AreTextBytes p.0) (ok_is (take b.0 (rest s), after s (b.0 + 1)) y b.2) (z.text (rest_holds s h))

yes_ok : {A : Type 0} (b : Bool) (d : Fault) (x y : A) → (if b then Ok x else Err d) ≡ Ok y → (b ≡ true) × (x ≡ y)
yes_ok false d x y e = absurd cc
yes_ok true d x y e = (refl, cc)

pub uleb_below : (s : Spot) (y : ℕ × Spot) → uleb_at s ≡ Ok y → y.0 < 2 ^ 64
unfolding uleb_at
uleb_below s y e =
    let b = bind_ok (leb_at s) (λ bytes. if nat_lt (uleb_value bytes) (2 ^ 64) then Ok (uleb_value bytes, after s (length bytes)) else Err (fault_at s kinds.LebTooWide)) y e in
    let is = yes_ok (nat_lt (uleb_value b.0) (2 ^ 64)) (fault_at s kinds.LebTooWide) (uleb_value b.0, after s (length b.0)) y b.2 in
    subst (λ (p : ℕ × Spot). p.0 < 2 ^ 64) is.1 (ltb-true (uleb_value b.0) (2 ^ 64) is.0)

-- a number that was read was there
pub number_room : (n : ℕ) (s : Spot) (y : ℕ × Spot) → number_at n s ≡ Ok y → (y.1 ≡ after s n) × (n ≤ s.end - s.place)
unfolding number_at
number_room n s y e =
    let g = guard_ok (ltb (s.end - s.place) n) (fault_at s kinds.Truncated) (little_number n (rest s), after s n) y e in
    (ap (λ (p : ℕ × Spot). p.1) (sym g.1), ltb-false (s.end - s.place) n g.0)

-- ---- inside of bytes

-- a cursor in bytes that are all there
pub record Lies (s : Spot) : Type 0 where
  pub holds : Holds s
  pub stands : Stands s

pub lies_on : (s t : Spot) → Lies s → Onward s t → Lies t
lies_on s t h o = record { holds = onward_holds s t o h.holds; stands = subst Stands (sym o.is) (stands_after s o.by h.stands o.fits) }

pub number_lies : (n : ℕ) (s : Spot) (y : ℕ × Spot) → Lies s → number_at n s ≡ Ok y → Lies y.1
number_lies n s y h e = lies_on s y.1 h (number_onward n s y e)
