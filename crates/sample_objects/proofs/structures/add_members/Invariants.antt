use Rattle.std.proofs.Common.{◌≡◌, ◌++◌, map}
use Rattle.std.specs.List.{range_with_len}
use Rattle.sample_objects.specs.GeneratedUnit.{member}
use Rattle.sample_objects.proofs.structures.add_members.Given as goal

abbrev pub invariant-loop-k : goal.invariant-loop-k
invariant-loop-k l = l.nodes ≡ l.fn.nodes ++ map (member l.j) (range_with_len 0 l.k)
