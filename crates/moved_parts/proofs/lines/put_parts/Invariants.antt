use Rattle.std.proofs.Common.{◌≡◌, [], map, take}
use Rattle.moved_parts.specs.Parts.{part_seen}
use Rattle.moved_parts.proofs.lines.put_parts.Given as goal

-- the sequences of the parts so far
abbrev pub invariant-loop-part : goal.invariant-loop-part
invariant-loop-part l = l.builder ≡ record { ended = map (λ part. (part_seen l.sequences part).sequence) (take l.part-index l.parts); rows = [] }
