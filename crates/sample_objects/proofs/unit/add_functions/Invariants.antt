use Rattle.std.proofs.Common.{◌≡◌, ◌++◌}
use Rattle.std.specs.List.{flat_map, range_with_len}
use Rattle.sample_objects.specs.GeneratedUnit.{function_tree}
use Rattle.sample_objects.proofs.unit.add_functions.Given as goal

abbrev pub invariant-loop-j : goal.invariant-loop-j
invariant-loop-j l = l.nodes ≡ l.fn.nodes ++ flat_map (function_tree l.i) (range_with_len 0 l.j)
