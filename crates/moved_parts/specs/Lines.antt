-- What of a line table went to the linked program (DWARF 4, section 6.2): the rows that the ranges of the address map hold.
use Rattle.std.specs.Prelude.{ℕ, ◌==◌, ◌&&◌, ◌||◌, Bool, List, [], ◌∷◌, length, Option, Some, None, nat_lt, nat_le, if◌then◌else◌}
use Rattle.std.specs.List.{filter_map, flat_map}
use Rattle.std.specs.Option.{option_and_then, unwrap_or}
use Rattle.dwarf_types.specs.declared.address.Addr.{Addr}
use Rattle.dwarf_types.specs.declared.lines.OutLines.{OutLines}
use Rattle.dwarf_types.specs.declared.lines.RawLines.{RawLines}
use Rattle.dwarf_types.specs.declared.lines.RawRow.{RawRow}
use Rattle.dwarf_types.specs.declared.lines.RawSequence.{RawSequence}
use Rattle.dwarf_types.specs.declared.lines.Row.{Row}
use Rattle.dwarf_types.specs.declared.lines.Sequence.{Sequence}
use Rattle.addr_map.specs.declared.map.AddrMap.{AddrMap}
use Rattle.addr_map.specs.declared.map.MapRange.{MapRange}
use Rattle.addr_map.specs.Moved.{holds, holds_end, moved_by}
use Rattle.line_read.specs.Rising.{placed}

-- ---- one sequence and one range

-- the row, moved, if its address is in the range
abbrev pub row_by : MapRange → RawRow → Option Row
row_by r row = option_and_then (λ a. if holds a r then Some (record row.row { address = moved_by a r }) else None) (placed row.at)

-- the end of a sequence, moved, if it is behind an address of the range
abbrev pub end_by : MapRange → Addr → Option ℕ
end_by r at = option_and_then (λ a. if holds_end a r then Some (moved_by a r) else None) (placed at)

-- where the range itself ends in the linked program
abbrev pub linked_end : MapRange → ℕ
linked_end r = moved_by r.end r

-- the rows of a sequence that are in the range are one, where there is any: it ends where the sequence does, or else with the range
abbrev pub sequence_by : RawSequence → MapRange → Option Sequence
sequence_by s r =
    let rows = filter_map (row_by r) s.rows in
    if length rows == 0 then None else Some (record { rows = rows; end = unwrap_or (option_and_then (end_by r) s.end) (linked_end r) })

-- ---- all of them

-- by linked start, and then by the object's
abbrev pub is_first : MapRange → MapRange → Bool
is_first r other = nat_lt r.linked other.linked || (r.linked == other.linked && nat_le r.start other.start)

-- a range put before the first that it comes before
abbrev pub placed_among : MapRange → List MapRange → List MapRange
placed_among r [] = r ∷ []
placed_among r (x ∷ xs) = if is_first r x then r ∷ x ∷ xs else x ∷ placed_among r xs

-- ranges in the order of the linked program
abbrev pub by_linked : List MapRange → List MapRange
by_linked [] = []
by_linked (r ∷ rs) = placed_among r (by_linked rs)

-- of each range in that order, and each sequence in the order of the table, the rows that are in the range
abbrev pub sequences_moved : List MapRange → List RawSequence → List Sequence
sequences_moved ranges sequences = flat_map (λ r. filter_map (λ s. sequence_by s r) sequences) (by_linked ranges)

-- a line table with its directories and files as they are, and the sequences that went to the linked program
abbrev pub lines_moved : AddrMap → RawLines → OutLines
lines_moved map lines = record { dirs = lines.dirs; files = lines.files; sequences = sequences_moved map.ranges lines.sequences }
