use Rattle.std.proofs.Common.{◌≡◌, ◌+◌, ◌*◌, ◌^◌, ◌≤◌, drop, length, map}
use Rattle.dsym_write.specs.Pieces.{total, with_size}
use Rattle.dsym_write.proofs.places.written_size.Given as goal

abbrev pub invariant-loop-section : goal.invariant-loop-section
invariant-loop-section l = record {
  summed : l.size + total (map (with_size l.layout) (drop l.section-index l.sections)) ≡ total (map (with_size l.layout) l.sections);
  room : l.size ≤ l.section-index * 2 ^ 64;
  within : l.section-index ≤ length l.sections;
}
