-- A member of an archive has no more bytes than the archive.
use Rattle.std.proofs.Common.{◌≡◌, ◌<◌, ◌≤◌, ◌+◌, ◌-◌, ◌∙◌, sym, inl, inr, ℕ, zero, suc, not, Bool, true, false, List, length, take, drop, length-take, length-drop, Result, Ok, Err, Bor, nat_lt, nat_eq, refl, ap, subst, arith, if◌then◌else◌}
use Rattle.std.specs.Prelude.{IfOk}
use Rattle.std.specs.List.{starts_with}
use Rattle.std.specs.Str.{bytes_eq}
use Rattle.ds_base.specs.declared.fault.Fault.{Fault}
use Rattle.ds_base.specs.declared.fault.Kind.TheVariants as kinds
use Rattle.ds_base.specs.MachONumbers.{ARMAG, AR_HDR_SIZE, ARFMAG, AR_EFMT1}
use Rattle.ds_base.specs.Reading.{Finds, or_fault}
use Rattle.ds_base.proofs.Passing.{bind_ok, ok_is, passed}
use Rattle.ar_read.specs.Archive.{found_in, member_of, member_size}
use Rattle.ar_read.proofs.Listing.{all_members, found_end, found_fault, found_step, from_place}
use Rattle.std.proofs.lemmas.Bool.{cases_lt}
use Rattle.ar_read.specs.Header.{Named, archive_fault, long_at, member_at, named_at}
use Rattle.ar_read.specs.Number.{number_of}

named_of : List ℕ → List ℕ → ℕ → Named
named_of name content size = record { name = name; content = content; size = size }

long_within : (place len : ℕ) (body : List ℕ) (m : Named) → long_at place len body ≡ Ok m → length m.content ≤ length body
long_within place len body m e =
    let rest = passed (nat_lt (length body) len) (archive_fault kinds.BadMember place) _ m e in
    let is = ap (λ (n : Named). length n.content) (ok_is _ m rest.1) in
    omega (arith, is, length-drop len body)

named_within : (place : ℕ) (field body : List ℕ) (m : Named) → named_at place field body ≡ Ok m → length m.content ≤ length body
unfolding named_at
named_within place field body m e = by (not (starts_with nat_eq field AR_EFMT1)) refl e
  where
    by : (b : Bool) → not (starts_with nat_eq field AR_EFMT1) ≡ b → named_at place field body ≡ Ok m → length m.content ≤ length body
    by true t e = let is = ap (λ (n : Named). length n.content) (ok_is _ m (rw t at e)) in omega (arith, is)
    by false t e =
        let len = bind_ok (or_fault (number_of (drop 3 field)) (archive_fault kinds.BadMember place)) (λ len. long_at place len body) m (rw t at e) in
        long_within place len.0 body m len.2

member_within : (place : ℕ) (bytes : List ℕ) (m : Named) → member_at place bytes ≡ Ok m → length m.content ≤ length bytes
unfolding member_at
member_within place bytes m e =
    let first = passed (nat_lt (length bytes) AR_HDR_SIZE) (archive_fault kinds.BadMember place) _ m e in
    let second = passed (not (starts_with nat_eq (drop 58 bytes) ARFMAG)) (archive_fault kinds.BadMember place) _ m first.1 in
    let size = bind_ok (or_fault (number_of (take 10 (drop 48 bytes))) (archive_fault kinds.BadMember place)) _ m second.1 in
    let third = passed (nat_lt (length bytes - AR_HDR_SIZE) size.0) (archive_fault kinds.BadMember place) _ m size.2 in
    let within = named_within place (take 16 bytes) (take size.0 (drop AR_HDR_SIZE bytes)) m third.1 in
    omega (arith, within, length-take size.0 (drop AR_HDR_SIZE bytes), length-drop AR_HDR_SIZE bytes)

module _ (bytes name content : List ℕ) (place : ℕ) (more : (next : ℕ) → place < next → found_in name (from_place bytes next) ≡ Ok content → length content ≤ length bytes) where
  -- it is this member's, or that of one behind it
  named_here : (m : Named) → member_at place (drop place bytes) ≡ Ok m → (same : Bool) → bytes_eq m.name name ≡ same
      → (if bytes_eq m.name name then Ok m.content else found_in name (from_place bytes (place + member_size m.size))) ≡ Ok content → length content ≤ length bytes
  named_here m is true same e =
      let it = ap (λ (bs : List ℕ). length bs) (ok_is m.content content (rw same at e)) in
      omega (arith, it, member_within place (drop place bytes) m is, length-drop place bytes)
  named_here m is false same e = more (place + member_size m.size) (omega arith) (rw same at e)

  found_here : (one : Result Named Fault) → member_at place (drop place bytes) ≡ one → place < length bytes → found_in name (from_place bytes place) ≡ Ok content → length content ≤ length bytes
  found_here (Err f) is lt e = absurd (let clash = sym (found_fault bytes name place f lt is) ∙ e in cc)
  found_here (Ok m) is lt e = named_here m is (bytes_eq m.name name) refl (sym (found_step bytes name place m lt is) ∙ e)

found_within : (n : ℕ) (bytes name content : List ℕ) (place : ℕ) → length bytes - place < n → found_in name (from_place bytes place) ≡ Ok content → length content ≤ length bytes
found_within zero bytes name content place few e = absurd (omega arith)
found_within (suc n) bytes name content place few e = elim (cases_lt place (length bytes)) [
  | inl lt ↦ found_here bytes name content place (λ next behind. found_within n bytes name content next (omega arith)) (member_at place (drop place bytes)) refl lt e
  | inr end ↦ absurd (let clash = sym (found_end bytes name place end) ∙ e in cc)
]

member_few : (bytes name content : List ℕ) → member_of bytes name ≡ Ok content → length content ≤ length bytes
unfolding member_of
member_few bytes name content e =
    let found = passed (not (starts_with nat_eq bytes ARMAG)) (archive_fault kinds.NotArchive 0) _ content e in
    found_within (suc (length bytes)) bytes name content 8 (omega arith) (sym (ap (found_in name) (all_members bytes)) ∙ found.1)

-- the member that is found
pub content_within : (r : Result (Bor (List ℕ)) Fault) (file members name : List ℕ) → members ≡ file → Finds (λ bytes. bytes.now) r (member_of members name) → IfOk r (λ bytes. length bytes.now ≤ length file)
content_within (Ok bytes) file members name is found = subst (λ (f : List ℕ). length bytes.now ≤ length f) is (member_few members name bytes.now found)
content_within (Err fault) file members name is found = tt
