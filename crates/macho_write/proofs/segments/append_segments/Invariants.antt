use Rattle.std.proofs.Common.{◌≡◌, ◌++◌, drop}
use Rattle.macho_write.proofs.OwnCommands.{segments_text}
use Rattle.macho_write.proofs.segments.append_segments.Given as goal

abbrev pub invariant-loop-segment : goal.invariant-loop-segment
invariant-loop-segment l = l.out ++ segments_text l.placed (drop l.segment-index l.segments) l.left ≡ l.fn.out ++ segments_text l.placed l.segments l.sections
