-- Universal files byte for byte, as lipo writes them and as they are read.
use Rattle.std.proofs.Common.{◌≡◌, ℕ, List, [], ◌∷◌, length, replicate, take, Some, None, Ok, Err, refl}
use Rattle.ds_base.specs.declared.fault.Kind.TheVariants as kinds
use Rattle.ds_base.specs.MachONumbers.{CPU_TYPE_ARM64, CPU_TYPE_X86_64}
use Rattle.ds_base.specs.Room.{put}
use Rattle.universal.specs.declared.choosing.Arch.{Arch}
use Rattle.universal.specs.declared.parts.Thin.{Thin}
use Rattle.universal.specs.declared.records.Slice.{Slice}
use Rattle.universal.specs.Records.{count_of, header_fault, number_of, slice_at, slice_of, slices_of}
use Rattle.universal.specs.Choice.{slice_for}
use Rattle.universal.specs.Joined.{head, joined, slices_joined}

-- what reading computes with
reading : Unit {0}
unfolding count_of number_of slice_at slice_of slices_of
reading = tt

-- what cutting a slice computes with
cutting : Unit {0}
unfolding reading slice_for
cutting = tt

abbrev slice : ℕ → ℕ → ℕ → ℕ → Slice
slice cpu sub offset size = record { cpu = cpu; sub = sub; offset = offset; size = size }

abbrev thin : ℕ → ℕ → List ℕ → Thin
thin cpu sub bytes = record { cpu = cpu; sub = sub; bytes = bytes }

abbrev arch : ℕ → ℕ → Arch
arch cpu sub = record { cpu = cpu; sub = sub }

-- ---- joined

-- header and records of files of 0x1000 and 0x10a2 bytes
two : head (slices_joined (thin CPU_TYPE_X86_64 3 (replicate 0x1000 0) ∷ thin CPU_TYPE_ARM64 0 (replicate 0x10a2 0) ∷ []))
    ≡ 0xca ∷ 0xfe ∷ 0xba ∷ 0xbe ∷ 0x00 ∷ 0x00 ∷ 0x00 ∷ 0x02 ∷ 0x01 ∷ 0x00 ∷ 0x00 ∷ 0x07 ∷ 0x00 ∷ 0x00 ∷ 0x00 ∷ 0x03 ∷ 0x00 ∷ 0x00 ∷ 0x10 ∷ 0x00 ∷ 0x00 ∷ 0x00 ∷ 0x10 ∷ 0x00 ∷ 0x00 ∷ 0x00 ∷ 0x00 ∷ 0x0c ∷ 0x01 ∷ 0x00 ∷ 0x00 ∷ 0x0c ∷ 0x00 ∷ 0x00 ∷ 0x00 ∷ 0x00 ∷ 0x00 ∷ 0x00 ∷ 0x20 ∷ 0x00 ∷ 0x00 ∷ 0x00 ∷ 0x10 ∷ 0xa2 ∷ 0x00 ∷ 0x00 ∷ 0x00 ∷ 0x0c ∷ []
two = refl

-- of 40, 50 and 5000 bytes
three : head (slices_joined (thin CPU_TYPE_X86_64 3 (replicate 40 0) ∷ thin CPU_TYPE_X86_64 8 (replicate 50 0) ∷ thin CPU_TYPE_ARM64 0 (replicate 5000 0) ∷ []))
    ≡ 0xca ∷ 0xfe ∷ 0xba ∷ 0xbe ∷ 0x00 ∷ 0x00 ∷ 0x00 ∷ 0x03 ∷ 0x01 ∷ 0x00 ∷ 0x00 ∷ 0x07 ∷ 0x00 ∷ 0x00 ∷ 0x00 ∷ 0x03 ∷ 0x00 ∷ 0x00 ∷ 0x10 ∷ 0x00 ∷ 0x00 ∷ 0x00 ∷ 0x00 ∷ 0x28 ∷ 0x00 ∷ 0x00 ∷ 0x00 ∷ 0x0c ∷ 0x01 ∷ 0x00 ∷ 0x00 ∷ 0x07 ∷ 0x00 ∷ 0x00 ∷ 0x00 ∷ 0x08 ∷ 0x00 ∷ 0x00 ∷ 0x20 ∷ 0x00 ∷ 0x00 ∷ 0x00 ∷ 0x00 ∷ 0x32 ∷ 0x00 ∷ 0x00 ∷ 0x00 ∷ 0x0c ∷ 0x01 ∷ 0x00 ∷ 0x00 ∷ 0x0c ∷ 0x00 ∷ 0x00 ∷ 0x00 ∷ 0x00 ∷ 0x00 ∷ 0x00 ∷ 0x30 ∷ 0x00 ∷ 0x00 ∷ 0x00 ∷ 0x13 ∷ 0x88 ∷ 0x00 ∷ 0x00 ∷ 0x00 ∷ 0x0c ∷ []
three = refl

long : length (joined (thin CPU_TYPE_X86_64 3 (replicate 0x1000 0) ∷ thin CPU_TYPE_ARM64 0 (replicate 0x10a2 0) ∷ [])) ≡ 12450
long = refl

-- ---- read

-- two slices for one CPU, of two and of three bytes
abbrev small : List ℕ
small =
    0xca ∷ 0xfe ∷ 0xba ∷ 0xbe ∷ 0x00 ∷ 0x00 ∷ 0x00 ∷ 0x02 ∷ 0x01 ∷ 0x00 ∷ 0x00 ∷ 0x07 ∷ 0x00 ∷ 0x00 ∷ 0x00 ∷ 0x03 ∷ 0x00 ∷ 0x00 ∷ 0x00 ∷ 0x30 ∷ 0x00 ∷ 0x00 ∷ 0x00 ∷ 0x02 ∷ 0x00 ∷ 0x00 ∷ 0x00 ∷ 0x00 ∷ 0x01 ∷ 0x00 ∷ 0x00 ∷ 0x07 ∷ 0x00 ∷ 0x00 ∷ 0x00 ∷ 0x08 ∷ 0x00 ∷ 0x00 ∷ 0x00 ∷ 0x32 ∷ 0x00 ∷ 0x00 ∷ 0x00 ∷ 0x03 ∷ 0x00 ∷ 0x00 ∷ 0x00 ∷ 0x00 ∷ 0x01 ∷ 0x02 ∷ 0x03 ∷ 0x04 ∷ 0x05 ∷ []

the_slices : slices_of small ≡ Ok (Some (slice CPU_TYPE_X86_64 3 48 2 ∷ slice CPU_TYPE_X86_64 8 50 3 ∷ []))
unfolding reading
the_slices = refl

-- a slice may end where the file ends, but not behind it
cut_by_a_byte : slices_of (take 52 small) ≡ Err (header_fault kinds.BadUniversal 28)
unfolding reading
cut_by_a_byte = refl

-- an empty slice may stand at the end of the file, but not behind it
empty_at_the_end : slices_of (put small 36 (0 ∷ 0 ∷ 0 ∷ 53 ∷ 0 ∷ 0 ∷ 0 ∷ 0 ∷ [])) ≡ Ok (Some (slice CPU_TYPE_X86_64 3 48 2 ∷ slice CPU_TYPE_X86_64 8 53 0 ∷ []))
unfolding reading
empty_at_the_end = refl

empty_behind_the_end : slices_of (put small 36 (0 ∷ 0 ∷ 0 ∷ 54 ∷ 0 ∷ 0 ∷ 0 ∷ 0 ∷ [])) ≡ Err (header_fault kinds.BadUniversal 28)
unfolding reading
empty_behind_the_end = refl

-- offset and size that pass four bytes together
far : slices_of (put small 16 (0xff ∷ 0xff ∷ 0xff ∷ 0xff ∷ 0 ∷ 0 ∷ 0 ∷ 1 ∷ [])) ≡ Err (header_fault kinds.BadUniversal 8)
unfolding reading
far = refl

records_are_cut : slices_of (take 47 small) ≡ Err (header_fault kinds.Truncated 0)
unfolding reading
records_are_cut = refl

header_is_cut : slices_of (take 7 small) ≡ Err (header_fault kinds.Truncated 0)
unfolding reading
header_is_cut = refl

the_magic_alone : slices_of (take 4 small) ≡ Err (header_fault kinds.Truncated 0)
unfolding reading
the_magic_alone = refl

three_bytes_of_the_magic : slices_of (take 3 small) ≡ Ok None
unfolding reading
three_bytes_of_the_magic = refl

-- the count is tried before the records are
no_slices : slices_of (0xca ∷ 0xfe ∷ 0xba ∷ 0xbe ∷ 0 ∷ 0 ∷ 0 ∷ 0 ∷ []) ≡ Err (header_fault kinds.BadUniversal 4)
unfolding reading
no_slices = refl

many_slices : slices_of (0xca ∷ 0xfe ∷ 0xba ∷ 0xbe ∷ 0 ∷ 0 ∷ 0 ∷ 0x34 ∷ []) ≡ Err (header_fault kinds.BadUniversal 4)
unfolding reading
many_slices = refl

seventeen_slices : slices_of (0xca ∷ 0xfe ∷ 0xba ∷ 0xbe ∷ 0 ∷ 0 ∷ 0 ∷ 17 ∷ []) ≡ Err (header_fault kinds.BadUniversal 4)
unfolding reading
seventeen_slices = refl

sixteen_slices : slices_of (0xca ∷ 0xfe ∷ 0xba ∷ 0xbe ∷ 0 ∷ 0 ∷ 0 ∷ 16 ∷ []) ≡ Err (header_fault kinds.Truncated 0)
unfolding reading
sixteen_slices = refl

-- ---- chosen

an_equal_subtype_behind_another : slice_for (arch CPU_TYPE_X86_64 8) small ≡ Ok (3 ∷ 4 ∷ 5 ∷ [])
unfolding cutting
an_equal_subtype_behind_another = refl

the_highest_byte_of_a_subtype : slice_for (arch CPU_TYPE_X86_64 0x80000008) small ≡ Ok (3 ∷ 4 ∷ 5 ∷ [])
unfolding cutting
the_highest_byte_of_a_subtype = refl

no_equal_subtype : slice_for (arch CPU_TYPE_X86_64 4) small ≡ Ok (1 ∷ 2 ∷ [])
unfolding cutting
no_equal_subtype = refl

no_slice_for_the_cpu : slice_for (arch CPU_TYPE_ARM64 0) small ≡ Err (header_fault kinds.WrongCpu 4)
unfolding cutting
no_slice_for_the_cpu = refl

-- the byte at 12 is the highest of the first subtype
a_record_with_the_highest_byte : slice_for (arch CPU_TYPE_X86_64 3) (put small 12 (0x80 ∷ [])) ≡ Ok (1 ∷ 2 ∷ [])
unfolding cutting
a_record_with_the_highest_byte = refl

a_thin_file : slice_for (arch CPU_TYPE_ARM64 0) (0xcf ∷ 0xfa ∷ 0xed ∷ 0xfe ∷ []) ≡ Ok (0xcf ∷ 0xfa ∷ 0xed ∷ 0xfe ∷ [])
unfolding cutting
a_thin_file = refl
