use Rattle.std.proofs.Common.{◌≡◌, ◌-◌, ◌++◌, length, map}
use Rattle.std.specs.List.{All}
use Rattle.dwarf_types.specs.SeenLines.{raw_sequence_seen}
use Rattle.moved_parts.specs.Parts.{IsPart, part_seen, parts_of}
use Rattle.moved_parts.proofs.Runs.{from_row}
use Rattle.moved_parts.proofs.lines.add_parts.Given as goal

-- the parts so far and those of the other rows are the parts of all
abbrev pub invariant-loop-next : goal.invariant-loop-next
invariant-loop-next l =
    record {
      parts : map (part_seen l.sequences) l.parts.items ++ from_row (raw_sequence_seen l.sequence) l.next l.ranges ≡ map (part_seen l.sequences) l.initial.parts.items ++ parts_of l.ranges (raw_sequence_seen l.sequence);
      sound : All (IsPart l.sequences) l.parts.items;
    }

abbrev pub decreases-loop-next : goal.decreases-loop-next
decreases-loop-next l = length l.rows - l.next
