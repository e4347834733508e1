-- Files for one CPU each, joined into a universal file (mach-o/fat.h): header and records, and each part at the next page.
use Rattle.std.specs.Prelude.{◌≡◌, ℕ, ◌+◌, ◌-◌, ◌*◌, ◌/◌, ◌^◌, ◌<◌, ◌≤◌, List, [], ◌∷◌, ◌++◌, length, map, replicate, Result, Ok, Err}
use Rattle.std.specs.List.{flat_map}
use Rattle.byteorder.specs.Endian.{big_bytes}
use Rattle.ds_base.specs.MachONumbers.{FAT_MAGIC}
use Rattle.universal.specs.declared.parts.Appended.{Appended}
use Rattle.universal.specs.declared.parts.JoinError.{JoinError}
use Rattle.universal.specs.declared.parts.JoinError.TheVariants as errors
use Rattle.universal.specs.declared.parts.Thin.{Thin}
use Rattle.universal.specs.declared.records.Slice.{Slice}
use Rattle.universal.specs.Records.{head_size}

-- ---- pages of 0x1000 bytes

-- the next multiple of the size of a page
abbrev pub page_end : ℕ → ℕ
page_end n = (n + 0xfff) / 0x1000 * 0x1000

-- zeros from a place up to the next page
abbrev pub page_zeros : ℕ → List ℕ
page_zeros at = replicate (page_end at - at) 0

-- ---- header and records

-- what the record of a part says, but its offset
abbrev pub appended : Thin → Appended
appended p = record { cpu = p.cpu; sub = p.sub; size = length p.bytes }

-- the slice of a part at an offset
abbrev pub slice_from : Appended → ℕ → Slice
slice_from p offset = record { cpu = p.cpu; sub = p.sub; offset = offset; size = p.size }

-- the slices of parts behind a place: each at the next page behind the one before
abbrev pub placed : ℕ → List Appended → List Slice
placed at [] = []
placed at (p ∷ parts) = slice_from p (page_end at) ∷ placed (page_end at + p.size) parts

-- the slices of a file with these parts
abbrev pub places : List Appended → List Slice
places parts = placed (head_size (length parts)) parts

-- a record (fat_arch): cputype, cpusubtype, offset, size, and the alignment of a page as a power of two
abbrev pub record_bytes : Slice → List ℕ
record_bytes s = big_bytes 4 s.cpu ++ (big_bytes 4 s.sub ++ (big_bytes 4 s.offset ++ (big_bytes 4 s.size ++ big_bytes 4 12)))

abbrev pub head : List Slice → List ℕ
head slices = big_bytes 4 FAT_MAGIC ++ (big_bytes 4 (length slices) ++ flat_map record_bytes slices)

-- ---- the file

-- parts behind a place: each at the next page, with zeros before it
abbrev pub paged : ℕ → List Thin → List ℕ
paged at [] = []
paged at (p ∷ parts) = page_zeros at ++ (p.bytes ++ paged (page_end at + length p.bytes) parts)

-- the slices of the joined file
abbrev pub slices_joined : List Thin → List Slice
slices_joined parts = places (map appended parts)

abbrev pub joined : List Thin → List ℕ
joined parts = head (slices_joined parts) ++ paged (head_size (length parts)) parts

-- while it is made in place: a page of zeros, which header and records are to take, and the parts behind it
abbrev pub unheaded : List Thin → List ℕ
unheaded parts = replicate 0x1000 0 ++ paged 0x1000 parts

-- What joining answered: the file, or want of memory, where it has less than 2^32 bytes, and else its length.
abbrev pub Joins : List Thin → Result (List ℕ) JoinError → Type 0
Joins parts (Ok file) = (file ≡ joined parts) × (length (joined parts) < 2 ^ 32)
Joins parts (Err (errors.File size)) = (size ≡ length (joined parts)) × (2 ^ 32 ≤ length (joined parts))
Joins parts (Err errors.NoMemory) = length (joined parts) < 2 ^ 32
