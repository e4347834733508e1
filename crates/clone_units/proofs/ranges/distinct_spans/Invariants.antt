use Rattle.std.proofs.Common.{◌≡◌, ◌++◌, None, drop}
use Rattle.clone_units.specs.Pieces.{once_behind}
use Rattle.clone_units.proofs.ranges.distinct_spans.Given as goal

-- the spans so far and those that are left
abbrev pub invariant-loop-pair : goal.invariant-loop-pair
invariant-loop-pair l = l.spans ++ once_behind l.last (drop l.pair-index l.pairs) ≡ once_behind None l.pairs
