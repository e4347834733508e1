-- A universal file (mach-o/fat.h): a header with a magic and a count, and of each slice a record (fat_arch). Numbers have four bytes, the highest first.
use Rattle.std.specs.Prelude.{ℕ, ◌+◌, ◌*◌, ◌≤◌, ◌==◌, ◌||◌, not, Bool, List, [], length, drop, All, Option, Some, None, Result, Ok, nat_eq, nat_lt, if◌then◌else◌}
use Rattle.std.specs.List.{starts_with}
use Rattle.byteorder.specs.Endian.{big_bytes, big_number}
use Rattle.ds_base.specs.declared.fault.Fault.{Fault}
use Rattle.ds_base.specs.declared.fault.Kind.{Kind}
use Rattle.ds_base.specs.declared.fault.Kind.TheVariants as kinds
use Rattle.ds_base.specs.declared.fault.Part.TheVariants as parts
use Rattle.ds_base.specs.MachONumbers.{FAT_MAGIC, FAT_HEADER_SIZE, FAT_ARCH_SIZE}
use Rattle.ds_base.specs.Reading.{◌>>=◌, refuse_if, items_at}
use Rattle.universal.specs.declared.records.Slice.{Slice}

abbrev pub header_fault : Kind → ℕ → Fault
header_fault kind place = record { kind = kind; section = parts.Header; place = place }

-- the number in the four bytes at a place
unfoldable pub number_of : ℕ → List ℕ → ℕ
number_of at bytes = big_number 4 (drop at bytes)

-- bytes that begin with the magic are a universal file
abbrev pub is_universal : List ℕ → Bool
is_universal bytes = starts_with nat_eq bytes (big_bytes 4 FAT_MAGIC)

-- header and records of so many slices, in bytes
abbrev pub head_size : ℕ → ℕ
head_size count = FAT_HEADER_SIZE + FAT_ARCH_SIZE * count

-- how many records there are: 1 to 16, all of which lie in the file
unfoldable pub count_of : List ℕ → Result ℕ Fault
count_of bytes = do
  _ ← refuse_if (nat_lt (length bytes) FAT_HEADER_SIZE) (header_fault kinds.Truncated 0)
  _ ← refuse_if (number_of 4 bytes == 0 || nat_lt 16 (number_of 4 bytes)) (header_fault kinds.BadUniversal 4)
  _ ← refuse_if (nat_lt (length bytes) (head_size (number_of 4 bytes))) (header_fault kinds.Truncated 0)
  Ok (number_of 4 bytes)

-- the record at a place: cputype, cpusubtype, offset, size, and an alignment that is passed over
unfoldable pub slice_of : List ℕ → ℕ → Slice
slice_of bytes at = record { cpu = number_of at bytes; sub = number_of (at + 4) bytes; offset = number_of (at + 8) bytes; size = number_of (at + 12) bytes }

-- the slice of the record at a place, which lies in the file, and the place of the next record
unfoldable pub slice_at : List ℕ → ℕ → Result (Slice × ℕ) Fault
slice_at bytes at = do
  _ ← refuse_if (nat_lt (length bytes) ((slice_of bytes at).offset + (slice_of bytes at).size)) (header_fault kinds.BadUniversal at)
  Ok (slice_of bytes at, at + FAT_ARCH_SIZE)

-- the slices of so many records behind the header
abbrev pub slices_by : List ℕ → ℕ → Result (List Slice) Fault
slices_by bytes count = do
  read ← items_at (slice_at bytes) count [] FAT_HEADER_SIZE
  Ok read.0

-- the slices of a universal file
abbrev pub all_slices : List ℕ → Result (Option (List Slice)) Fault
all_slices bytes = do
  count ← count_of bytes
  slices ← slices_by bytes count
  Ok (Some slices)

-- the slices of bytes that are a universal file
unfoldable pub slices_of : List ℕ → Result (Option (List Slice)) Fault
slices_of bytes = if not (is_universal bytes) then Ok None else all_slices bytes

-- the slice lies in the file
abbrev pub IsWithin : List ℕ → Slice → Type 0
IsWithin bytes slice = slice.offset + slice.size ≤ length bytes

-- 1 to 16 slices, each of which lies in the file
pub record AreWithin (bytes : List ℕ) (slices : List Slice) : Type 0 where
  pub some : 1 ≤ length slices
  pub few : length slices ≤ 16
  pub each : All (IsWithin bytes) slices
