use Rattle.std.proofs.Common.{◌≡◌, ◌≤◌, ◌++◌, drop, length, map}
use Rattle.std.specs.List.{filter}
use Rattle.dsym_write.specs.Pieces.{with_size}
use Rattle.sample_objects.specs.Sized.{has_size}
use Rattle.sample_objects.proofs.sections.with_bytes.Given as goal

abbrev pub invariant-loop-section : goal.invariant-loop-section
invariant-loop-section l = record {
  passed : l.sized ++ filter has_size (map (with_size l.layout) (drop l.section-index l.sections)) ≡ filter has_size (map (with_size l.layout) l.sections);
  few : length l.sized ≤ l.section-index;
  within : l.section-index ≤ length l.sections;
}
