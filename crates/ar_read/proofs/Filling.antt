-- The members that are listed follow each other without a gap.
use Rattle.std.proofs.Common.{◌≡◌, ℕ, zero, suc, ◌+◌, ◌-◌, ◌<◌, ◌≤◌, not, Bool, true, false, cond, List, length, take, drop, nat_le, nat_lt, nat_eq, Option, Result, Ok, Err, refl, sym, ap, ◌∙◌, arith, inl, inr}
use Rattle.std.specs.List.{starts_with}
use Rattle.std.proofs.Math.Nat.{mod-lt}
use Rattle.std.proofs.lemmas.Bool.{ltb-false, leb-true, leb-false, cases_Bool}
use Rattle.std.proofs.lemmas.List.{length-drop, length-take}
use Rattle.ds_base.specs.declared.fault.Fault.{Fault}
use Rattle.ds_base.specs.declared.fault.Kind.TheVariants as kinds
use Rattle.ds_base.specs.MachONumbers.{ARFMAG, AR_EFMT1, AR_HDR_SIZE}
use Rattle.ds_base.specs.Reading.{◌>>=◌, or_fault}
use Rattle.ds_base.proofs.Passing.{bind_ok, passed, ok_is}
use Rattle.ar_read.specs.Number.{number_of}
use Rattle.ar_read.specs.Header.{Named, archive_fault, long_at, named_at, member_at}
use Rattle.ar_read.specs.Archive.{Fill, Listing, listed, member_size, members_from, members_of}

-- ---- a member lies in its bytes

named_by : (plain : Bool) (place : ℕ) (short : Named) (count : Option ℕ) (body : List ℕ) (m : Named) → short.size ≡ length body
    → cond plain (Ok short) (or_fault count (archive_fault kinds.BadMember place) >>= λ len. long_at place len body) ≡ Ok m → m.size ≡ length body
named_by true place short count body m is e = ap (λ (n : Named). n.size) (sym (ok_is short m e)) ∙ is
named_by false place short count body m is e =
    let len = bind_ok (or_fault count (archive_fault kinds.BadMember place)) (λ len. long_at place len body) m e in
    let p = passed (nat_lt (length body) len.0) (archive_fault kinds.BadMember place) _ m len.2 in
    sym (ap (λ (n : Named). n.size) (ok_is _ m p.1))

named_size : (place : ℕ) (field body : List ℕ) (m : Named) → named_at place field body ≡ Ok m → m.size ≡ length body
unfolding named_at
named_size place field body m e = named_by (not (starts_with nat_eq field AR_EFMT1)) place _ (number_of (drop 3 field)) body m refl e

member_fits : (place : ℕ) (bytes : List ℕ) (m : Named) → member_at place bytes ≡ Ok m → 60 + m.size ≤ length bytes
unfolding member_at
member_fits place bytes m e =
    let bad : Fault = archive_fault kinds.BadMember place in
    let a = passed (nat_lt (length bytes) AR_HDR_SIZE) bad _ m e in
    let b = passed (not (starts_with nat_eq (drop 58 bytes) ARFMAG)) bad _ m a.1 in
    let size = bind_ok (or_fault (number_of (take 10 (drop 48 bytes))) bad) _ m b.1 in
    let d = passed (nat_lt (length bytes - AR_HDR_SIZE) size.0) bad _ m size.2 in
    let is = named_size place (take 16 bytes) (take size.0 (drop AR_HDR_SIZE bytes)) m d.1 in
    omega (arith, ltb-false _ _ a.0, is, length-take size.0 (drop AR_HDR_SIZE bytes), length-drop AR_HDR_SIZE bytes)

-- ---- members fill the bytes

listed_fill : (bytes : List ℕ) (place : ℕ) (one : Result Named Fault) (more : Named → Listing) → member_at place (drop place bytes) ≡ one → place < length bytes
    → ((m : Named) → one ≡ Ok m → Fill bytes (place + member_size m.size) (more m).members (more m).stop) → Fill bytes place (listed place one more).members (listed place one more).stop
listed_fill bytes place (Ok m) more is lt later = (refl, lt, is, later m refl)
listed_fill bytes place (Err f) more is lt later = (lt, is)

from_fill : (left : ℕ) (bytes : List ℕ) (place : ℕ) → length bytes - place < left → place ≤ length bytes + 1 → Fill bytes place (members_from left bytes place).members (members_from left bytes place).stop
unfolding members_from
from_fill zero bytes place few le = absurd (omega arith)
from_fill (suc left) bytes place few le = elim (cases_Bool (nat_le (length bytes) place)) [
  | inl end ↦ let past : length bytes ≤ place = leb-true (length bytes) place end in rw end (past, le)
  | inr more ↦
      let lt : place < length bytes = leb-false (length bytes) place more in
      rw more (listed_fill bytes place (member_at place (drop place bytes)) (λ m. members_from left bytes (place + member_size m.size)) refl lt
      (λ m is.
      let fits = member_fits place (drop place bytes) m is in
      from_fill left bytes (place + member_size m.size) (omega arith) (omega (arith, fits, length-drop place bytes, mod-lt m.size {m = 2} (omega arith)))))
]

pub members_fill : (bytes : List ℕ) → 8 ≤ length bytes → Fill bytes 8 (members_of bytes).members (members_of bytes).stop
members_fill bytes le = from_fill (suc (length bytes)) bytes 8 (omega arith) (omega arith)
