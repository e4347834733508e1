-- The laws above what a universal file is: what is joined is read back, and why a file is refused.
use Rattle.std.specs.Prelude.{◌≡◌, ◌⊎◌, ℕ, ◌+◌, ◌^◌, ◌<◌, ◌≤◌, List, length, map, Some, Ok}
use Rattle.std.specs.List.{AllByRecursion}
use Rattle.ds_base.specs.declared.fault.Fault.{Fault}
use Rattle.ds_base.specs.declared.fault.Kind.TheVariants as kinds
use Rattle.ds_base.specs.MachONumbers.{FAT_HEADER_SIZE}
use Rattle.universal.specs.declared.parts.Thin.{Thin}
use Rattle.universal.specs.Records.{IsWithin, head_size, header_fault, number_of, slice_of, slices_of}
use Rattle.universal.specs.Choice.{slice_bytes}
use Rattle.universal.specs.Joined.{joined, slices_joined}

-- CPU type and subtype have four bytes
abbrev pub HasNumbers : Thin → Type 0
HasNumbers p = (p.cpu < 2 ^ 32) × (p.sub < 2 ^ 32)

-- a joined file has the slices of its parts, and each slice has its part's bytes
pub record IsReadBack (parts : List Thin) : Type 0 where
  pub slices : slices_of (joined parts) ≡ Ok (Some (slices_joined parts))
  pub bytes : map (slice_bytes (joined parts)) (slices_joined parts) ≡ map (λ p. p.bytes) parts

-- of 1 to 16 parts, in a file that offsets of four bytes reach
abbrev pub SlicesReadBack : Type 0
SlicesReadBack = (parts : List Thin) → 1 ≤ length parts → length parts ≤ 16 → AllByRecursion HasNumbers parts → length (joined parts) < 2 ^ 32 → IsReadBack parts

-- a file has 1 to 16 slices
abbrev pub IsCount : ℕ → Type 0
IsCount n = (1 ≤ n) × (n ≤ 16)

-- why a universal file is refused, each cause where none before it is: its header is cut; its count is wrong; its records are cut; slice i passes the file
pub data Refuses (bytes : List ℕ) : Fault → Type 0 where
  cut_header : length bytes < FAT_HEADER_SIZE → Refuses bytes (header_fault kinds.Truncated 0)
  wrong_count : FAT_HEADER_SIZE ≤ length bytes → (number_of 4 bytes ≡ 0) ⊎ (16 < number_of 4 bytes) → Refuses bytes (header_fault kinds.BadUniversal 4)
  cut_records : FAT_HEADER_SIZE ≤ length bytes → IsCount (number_of 4 bytes) → length bytes < head_size (number_of 4 bytes) → Refuses bytes (header_fault kinds.Truncated 0)
  passing_slice : (i : ℕ) → IsCount (number_of 4 bytes) → head_size (number_of 4 bytes) ≤ length bytes → i < number_of 4 bytes → ((k : ℕ) → k < i → IsWithin bytes (slice_of bytes (head_size k)))
      → length bytes < (slice_of bytes (head_size i)).offset + (slice_of bytes (head_size i)).size → Refuses bytes (header_fault kinds.BadUniversal (head_size i))
