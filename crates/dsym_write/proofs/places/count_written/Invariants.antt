use Rattle.std.proofs.Common.{◌≡◌, ◌+◌, ◌≤◌, drop, map}
use Rattle.dsym_write.specs.Pieces.{count_of, with_size}
use Rattle.dsym_write.proofs.places.count_written.Given as goal

abbrev pub invariant-loop-section : goal.invariant-loop-section
invariant-loop-section l = record {
  counted : l.count + count_of (map (with_size l.layout) (drop l.section-index l.sections)) ≡ count_of (map (with_size l.layout) l.sections);
  few : l.count ≤ l.section-index;
}
