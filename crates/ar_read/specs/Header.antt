-- A member with its header, cut at the offsets of ar.h (ar_hdr): ar_name 16, ar_date 12, ar_uid 6, ar_gid 6, ar_mode 8, ar_size 10, ar_fmag 2.
use Rattle.std.specs.Prelude.{ℕ, ◌-◌, not, List, length, take, drop, Result, Ok, nat_lt, nat_eq, if◌then◌else◌}
use Rattle.std.specs.List.{starts_with}
use Rattle.ds_base.specs.declared.fault.Fault.{Fault}
use Rattle.ds_base.specs.declared.fault.Kind.{Kind}
use Rattle.ds_base.specs.declared.fault.Kind.TheVariants as kinds
use Rattle.ds_base.specs.declared.fault.Part.TheVariants as parts
use Rattle.ds_base.specs.MachONumbers.{AR_HDR_SIZE, ARFMAG, AR_EFMT1}
use Rattle.ds_base.specs.Reading.{◌>>=◌, refuse_if, or_fault}
use Rattle.ar_read.specs.declared.header.Member.{Member}
use Rattle.ar_read.specs.Number.{number_of}
use Rattle.ar_read.specs.Padding.{unpadded}

abbrev pub archive_fault : Kind → ℕ → Fault
archive_fault kind place = record { kind = kind; section = parts.Archive; place = place }

-- a member: its name, its content, and the size in its header
pub record Named : Type 0 where
  pub name : List ℕ
  pub content : List ℕ
  pub size : ℕ

abbrev pub seen : Member → Named
seen m = record { name = m.name.now; content = m.content.now; size = m.size }

-- a long name stands in the member's first bytes, padded with zeros
abbrev pub long_at : ℕ → ℕ → List ℕ → Result Named Fault
long_at place len body = do
  _ ← refuse_if (nat_lt (length body) len) (archive_fault kinds.BadMember place)
  Ok (record { name = unpadded 0 (take len body); content = drop len body; size = length body })

-- any other stands in the header, padded with spaces
unfoldable pub named_at : ℕ → List ℕ → List ℕ → Result Named Fault
named_at place field body =
    if not (starts_with nat_eq field AR_EFMT1) then Ok (record { name = unpadded 32 field; content = body; size = length body })
    else (or_fault (number_of (drop 3 field)) (archive_fault kinds.BadMember place) >>= λ len. long_at place len body)

-- the member that some bytes begin with, at a place of the archive
unfoldable pub member_at : ℕ → List ℕ → Result Named Fault
member_at place bytes = do
  _ ← refuse_if (nat_lt (length bytes) AR_HDR_SIZE) (archive_fault kinds.BadMember place)
  _ ← refuse_if (not (starts_with nat_eq (drop 58 bytes) ARFMAG)) (archive_fault kinds.BadMember place)
  size ← or_fault (number_of (take 10 (drop 48 bytes))) (archive_fault kinds.BadMember place)
  _ ← refuse_if (nat_lt (length bytes - AR_HDR_SIZE) size) (archive_fault kinds.BadMember place)
  named_at place (take 16 bytes) (take size (drop AR_HDR_SIZE bytes))
