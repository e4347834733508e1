-- A BSD archive (ar.h): a magic, and then members, each with a header, at even places.
use Rattle.std.specs.Prelude.{◌≡◌, ℕ, zero, suc, ◌+◌, ◌%◌, ◌<◌, ◌≤◌, not, List, [], ◌∷◌, length, drop, Option, Some, None, Result, Ok, Err, nat_eq, nat_le, if◌then◌else◌}
use Rattle.std.specs.List.{find, starts_with}
use Rattle.std.specs.Str.{bytes_eq}
use Rattle.ds_base.specs.declared.fault.Fault.{Fault}
use Rattle.ds_base.specs.declared.fault.Kind.TheVariants as kinds
use Rattle.ds_base.specs.MachONumbers.{ARMAG, AR_HDR_SIZE}
use Rattle.ds_base.specs.Reading.{◌>>=◌, refuse_if}
use Rattle.ar_read.specs.Header.{Named, archive_fault, member_at}

-- ---- the members of an archive

-- how many bytes a member takes with its header, up to an even place
abbrev pub member_size : ℕ → ℕ
member_size size = AR_HDR_SIZE + size + size % 2

-- a member, and the place of its header in the archive
pub record Placed : Type 0 where
  pub place : ℕ
  pub member : Named

-- members one after the other, and why they end: with the archive, or with a fault in the next header
pub record Listing : Type 0 where
  pub members : List Placed
  pub stop : Option Fault

-- a member before those behind it
abbrev pub listed : ℕ → Result Named Fault → (Named → Listing) → Listing
listed place (Ok m) more = record (more m) { members = record { place = place; member = m } ∷ (more m).members }
listed place (Err f) more = record { members = []; stop = Some f }

-- The members from a place on. Each takes a byte at least, so a count of more than the bytes that are left never runs out; it would be a fault.
unfoldable pub members_from : ℕ → List ℕ → ℕ → Listing
members_from zero bytes place = record { members = []; stop = Some (archive_fault kinds.BadMember place) }
members_from (suc left) bytes place =
    if nat_le (length bytes) place then record { members = []; stop = None }
    else listed place (member_at place (drop place bytes)) (λ m. members_from left bytes (place + member_size m.size))

-- the members of an archive stand behind its magic
abbrev pub members_of : List ℕ → Listing
members_of bytes = members_from (suc (length bytes)) bytes 8

-- Members end at a place: the archive ends there, or one byte before it, where the last member's padding is left out; or the header there is wrong.
abbrev pub Ends : List ℕ → ℕ → Option Fault → Type 0
Ends bytes place None = (length bytes ≤ place) × (place ≤ length bytes + 1)
Ends bytes place (Some f) = (place < length bytes) × (member_at place (drop place bytes) ≡ Err f)

-- members that follow each other without a gap from a place on: each is the one that begins where the one before ends
abbrev pub Fill : List ℕ → ℕ → List Placed → Option Fault → Type 0
Fill bytes from [] stop = Ends bytes from stop
Fill bytes from (m ∷ more) stop = (m.place ≡ from) × (from < length bytes) × (member_at from (drop from bytes) ≡ Ok m.member) × Fill bytes (from + member_size m.member.size) more stop

-- ---- the member of a name

-- a member's content, or why there is none
abbrev pub content_of : Option Placed → Option Fault → Result (List ℕ) Fault
content_of (Some m) stop = Ok m.member.content
content_of None (Some f) = Err f
content_of None None = Err (archive_fault kinds.NoMember 0)

-- the content of the first member of a name, or why the members end without it
abbrev pub found_in : List ℕ → Listing → Result (List ℕ) Fault
found_in name listing = content_of (find (λ m. bytes_eq m.member.name name) listing.members) listing.stop

unfoldable pub member_of : List ℕ → List ℕ → Result (List ℕ) Fault
member_of bytes name = do
  _ ← refuse_if (not (starts_with nat_eq bytes ARMAG)) (archive_fault kinds.NotArchive 0)
  found_in name (members_of bytes)
