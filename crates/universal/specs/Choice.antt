-- Which slice of a universal file is for a CPU, and the bytes that a file stands for there.
use Rattle.std.specs.Prelude.{ℕ, ◌%◌, ◌^◌, ◌==◌, ◌&&◌, Bool, List, take, drop, slice_get, Option, Some, None, Result, Ok}
use Rattle.std.specs.List.{position}
use Rattle.std.specs.Option.{option_and_then, option_or}
use Rattle.ds_base.specs.declared.fault.Fault.{Fault}
use Rattle.ds_base.specs.declared.fault.Kind.TheVariants as kinds
use Rattle.ds_base.specs.Reading.{◌>>=◌, or_fault}
use Rattle.universal.specs.declared.choosing.Arch.{Arch}
use Rattle.universal.specs.declared.records.Slice.{Slice}
use Rattle.universal.specs.Records.{header_fault, slices_of}

-- a subtype without the bits of CPU_SUBTYPE_MASK, which are its highest byte
abbrev pub plain_subtype : ℕ → ℕ
plain_subtype sub = sub % 2 ^ 24

abbrev pub is_for_cpu : ℕ → Slice → Bool
is_for_cpu cpu slice = slice.cpu == cpu

abbrev pub is_for : ℕ → ℕ → Slice → Bool
is_for cpu sub slice = is_for_cpu cpu slice && plain_subtype slice.sub == plain_subtype sub

-- the index of the first slice for a CPU and its subtype, or else of the first for the CPU
abbrev pub picked : List Slice → ℕ → ℕ → Option ℕ
picked slices cpu sub = option_or (position (is_for cpu sub) slices) (position (is_for_cpu cpu) slices)

-- and that slice
abbrev pub chosen : Arch → List Slice → Option Slice
chosen arch slices = option_and_then (λ i. slice_get slices i) (picked slices arch.cpu arch.sub)

-- the bytes of a slice
abbrev pub slice_bytes : List ℕ → Slice → List ℕ
slice_bytes file slice = take slice.size (drop slice.offset file)

-- a file with these slices, cut to the one for a CPU; a file that isn't universal stands for itself
abbrev pub cut_to : Arch → List ℕ → Option (List Slice) → Result (List ℕ) Fault
cut_to arch file None = Ok file
cut_to arch file (Some slices) = do
  slice ← or_fault (chosen arch slices) (header_fault kinds.WrongCpu 4)
  Ok (slice_bytes file slice)

-- the bytes that a file stands for on a CPU
unfoldable pub slice_for : Arch → List ℕ → Result (List ℕ) Fault
slice_for arch file = do
  slices ← slices_of file
  cut_to arch file slices
