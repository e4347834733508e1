use Rattle.std.proofs.Common.{◌≡◌, ◌≤◌, drop, max}
use Rattle.macho_read.specs.Commands.{last_end}
use Rattle.dsym_write.specs.Bundle.{end_of}
use Rattle.dsym_write.proofs.places.last_address.Given as goal

abbrev pub invariant-loop-segment : goal.invariant-loop-segment
invariant-loop-segment l = record {
  greatest : max l.last (end_of (drop l.segment-index l.segments)) ≡ end_of l.segments;
  room : l.last ≤ last_end;
}
