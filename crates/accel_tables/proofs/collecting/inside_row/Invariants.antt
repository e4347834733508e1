use Rattle.std.proofs.Common.{◌≡◌, map}
use Rattle.std.specs.List.{range_with_len}
use Rattle.accel_tables.specs.EnteredNames.{is_inside}
use Rattle.accel_tables.proofs.collecting.inside_row.Given as goal

abbrev pub invariant-loop-k : goal.invariant-loop-k
invariant-loop-k l = l.row.items ≡ map (is_inside l.nodes) (range_with_len 0 l.k)
