-- Of which kinds the faults of a member are.
use Rattle.std.proofs.Common.{ℕ, zero, suc, ◌+◌, ◌-◌, not, Bool, true, false, List, [], ◌∷◌, length, take, drop, Option, Some, None, Result, Ok, Err, refl, arith}
use Rattle.std.specs.Prelude.{nat_lt, nat_le, nat_eq, if◌then◌else◌}
use Rattle.std.specs.List.{Contains, find, starts_with}
use Rattle.std.specs.Str.{bytes_eq}
use Rattle.ds_base.specs.declared.fault.Fault.{Fault}
use Rattle.ds_base.specs.declared.fault.Kind.{Kind}
use Rattle.ds_base.specs.declared.fault.Kind.TheVariants as kinds
use Rattle.ds_base.specs.MachONumbers.{ARMAG, ARFMAG, AR_EFMT1, AR_HDR_SIZE}
use Rattle.ds_base.specs.Reading.{or_fault}
use Rattle.ar_read.specs.Number.{number_of}
use Rattle.ar_read.specs.Header.{Named, archive_fault, long_at, named_at, member_at}
use Rattle.ar_read.specs.Archive.{Listing, Placed, content_of, listed, member_of, member_size, members_from, members_of}
use Rattle.ds_base.proofs.FaultKinds.{FaultsAre, ok_kinds, err_kinds, bind_kinds, refuse_kinds, either_kinds, found_kinds}

abbrev OfMember : Kind → Type 0
OfMember = Contains (kinds.NotArchive ∷ kinds.BadMember ∷ kinds.NoMember ∷ [])

bad : (place : ℕ) → OfMember (archive_fault kinds.BadMember place).kind
bad place = (1, omega arith, refl)

-- ---- a member

long_kinds : (place len : ℕ) (body : List ℕ) → FaultsAre OfMember (long_at place len body)
long_kinds place len body = bind_kinds OfMember _ _ (refuse_kinds OfMember (nat_lt (length body) len) (archive_fault kinds.BadMember place) (bad place)) (λ u. ok_kinds OfMember _)

named_kinds : (place : ℕ) (field body : List ℕ) → FaultsAre OfMember (named_at place field body)
unfolding named_at
named_kinds place field body =
    either_kinds OfMember (not (starts_with nat_eq field AR_EFMT1)) _ _ (ok_kinds OfMember _)
    (bind_kinds OfMember (or_fault (number_of (drop 3 field)) (archive_fault kinds.BadMember place)) _ (found_kinds OfMember (number_of (drop 3 field)) (archive_fault kinds.BadMember place) (bad place))
    (λ len. long_kinds place len body))

member_kinds : (place : ℕ) (bytes : List ℕ) → FaultsAre OfMember (member_at place bytes)
unfolding member_at
member_kinds place bytes =
    bind_kinds OfMember _ _ (refuse_kinds OfMember (nat_lt (length bytes) AR_HDR_SIZE) (archive_fault kinds.BadMember place) (bad place))
    (λ u. bind_kinds OfMember _ _ (refuse_kinds OfMember (not (starts_with nat_eq (drop 58 bytes) ARFMAG)) (archive_fault kinds.BadMember place) (bad place))
    (λ u. bind_kinds OfMember (or_fault (number_of (take 10 (drop 48 bytes))) (archive_fault kinds.BadMember place)) _ (found_kinds OfMember (number_of (take 10 (drop 48 bytes))) (archive_fault kinds.BadMember place) (bad place))
    (λ size. bind_kinds OfMember _ _ (refuse_kinds OfMember (nat_lt (length bytes - AR_HDR_SIZE) size) (archive_fault kinds.BadMember place) (bad place))
    (λ u. named_kinds place (take 16 bytes) (take size (drop AR_HDR_SIZE bytes))))))

-- ---- the members

-- what is told where the members end
abbrev StopsSo : Option Fault → Type 0
StopsSo stop = FaultsAre OfMember (content_of None stop)

listed_kinds : (place : ℕ) (one : Result Named Fault) (more : Named → Listing) → FaultsAre OfMember one → ((m : Named) → StopsSo (more m).stop) → StopsSo (listed place one more).stop
listed_kinds place (Ok m) more here later = later m
listed_kinds place (Err f) more here later = err_kinds OfMember f (here f refl)

at_end : (b : Bool) (l : Listing) → StopsSo l.stop → StopsSo (if b then record { members = []; stop = None } else l).stop
at_end true l h = err_kinds OfMember (archive_fault kinds.NoMember 0) (2, omega arith, refl)
at_end false l h = h

from_kinds : (left : ℕ) (bytes : List ℕ) (place : ℕ) → StopsSo (members_from left bytes place).stop
unfolding members_from
from_kinds zero bytes place = err_kinds OfMember _ (bad place)
from_kinds (suc left) bytes place =
    at_end (nat_le (length bytes) place) (listed place (member_at place (drop place bytes)) (λ m. members_from left bytes (place + member_size m.size)))
    (listed_kinds place (member_at place (drop place bytes)) (λ m. members_from left bytes (place + member_size m.size)) (member_kinds place (drop place bytes)) (λ m. from_kinds left bytes (place + member_size m.size)))

content_kinds : (found : Option Placed) (stop : Option Fault) → StopsSo stop → FaultsAre OfMember (content_of found stop)
content_kinds (Some m) stop h = ok_kinds OfMember m.member.content
content_kinds None stop h = h

pub found_member_kinds : (bytes name : List ℕ) → FaultsAre OfMember (member_of bytes name)
unfolding member_of
found_member_kinds bytes name =
    bind_kinds OfMember _ _ (refuse_kinds OfMember (not (starts_with nat_eq bytes ARMAG)) (archive_fault kinds.NotArchive 0) (0, omega arith, refl))
    (λ u. content_kinds (find (λ m. bytes_eq m.member.name name) (members_of bytes).members) (members_of bytes).stop (from_kinds (suc (length bytes)) bytes 8))
