use Rattle.std.proofs.Common.{◌≡◌, ◌++◌, map}
use Rattle.std.specs.List.{range_with_len}
use Rattle.sample_objects.specs.GeneratedUnit.{pointer}
use Rattle.sample_objects.proofs.unit.add_pointers.Given as goal

abbrev pub invariant-loop-j : goal.invariant-loop-j
invariant-loop-j l = l.nodes ≡ l.fn.nodes ++ map pointer (range_with_len 0 l.j)
