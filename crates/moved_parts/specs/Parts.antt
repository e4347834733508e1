-- What the ranges hold of line sequences, before it is put in the order of the linked program.
use Rattle.std.specs.Prelude.{ℕ, ◌<◌, ◌≤◌, ◌+◌, Bool, false, List, [], length, take, drop, slice_get, Option, nat_le}
use Rattle.std.specs.List.{filter_map, find}
use Rattle.std.specs.Option.{option_and_then, option_map, option_map_or}
use Rattle.std.specs.Ordering.{is_lt, nat_cmp, ordering_then}
use Rattle.dwarf_types.specs.declared.address.Addr.{Addr}
use Rattle.dwarf_types.specs.declared.lines.RawRow.{RawRow}
use Rattle.dwarf_types.specs.declared.lines.RawSequence.{RawSequence}
use Rattle.dwarf_types.specs.declared.lines.Sequence.{Sequence}
use Rattle.addr_map.specs.declared.map.MapRange.{MapRange}
use Rattle.addr_map.specs.Moved.{holds}
use Rattle.addr_map.specs.Sound.{IsSoundRange}
use Rattle.line_read.specs.Rising.{placed}
use Rattle.moved_parts.specs.declared.lines.SequencePart.{SequencePart}
use Rattle.moved_parts.specs.Lines.{row_by, sequence_by}

-- the range that holds an address
abbrev pub range_of : List MapRange → Addr → Option MapRange
range_of ranges at = option_and_then (λ a. find (holds a) ranges) (placed at)

-- an address is behind those of a range
abbrev pub is_behind : MapRange → Addr → Bool
is_behind r at = option_map_or (λ a. nat_le r.end a) (placed at) false

-- what a range holds of a sequence, with the range
pub record MovedPart : Type 0 where
  pub range : MapRange
  pub sequence : Sequence

-- the same, if there is anything
abbrev pub part_of : RawSequence → MapRange → Option MovedPart
part_of s r = option_map (λ moved. record { range = r; sequence = moved }) (sequence_by s r)

-- of each range in the object's order
abbrev pub parts_of : List MapRange → RawSequence → List MovedPart
parts_of ranges s = filter_map (part_of s) ranges

-- one range is before another in the linked program, or where both have one place there, in the object
abbrev pub is_before : MapRange → MapRange → Bool
is_before r other = is_lt (ordering_then (nat_cmp r.linked other.linked) (nat_cmp r.start other.start))

-- ---- parts by their places

-- the rows of the sequence at a place
abbrev pub rows_at : List RawSequence → ℕ → List RawRow
rows_at ss i = option_map_or (λ s. s.rows) (slice_get ss i) []

-- what a part stands for
abbrev pub part_seen : List RawSequence → SequencePart → MovedPart
part_seen ss p = record { range = p.range; sequence = record { rows = filter_map (row_by p.range) (take p.count (drop p.first (rows_at ss p.sequence))); end = p.end } }

-- its rows are there
pub record IsPart (ss : List RawSequence) (p : SequencePart) : Type 0 where
  pub sound : IsSoundRange p.range
  pub known : p.sequence < length ss
  pub within : p.first + p.count ≤ length (rows_at ss p.sequence)
