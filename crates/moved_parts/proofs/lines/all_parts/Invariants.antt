use Rattle.std.proofs.Common.{◌≡◌, map, take}
use Rattle.std.specs.List.{All, flat_map}
use Rattle.moved_parts.specs.Parts.{IsPart, part_seen, parts_of}
use Rattle.moved_parts.proofs.lines.all_parts.Given as goal

-- the parts of the sequences so far
abbrev pub invariant-loop-index : goal.invariant-loop-index
invariant-loop-index l =
    record {
      parts : map (part_seen l.sequences) l.parts.items ≡ flat_map (parts_of l.ranges) (take l.index l.sequences);
      sound : All (IsPart l.sequences) l.parts.items;
    }
