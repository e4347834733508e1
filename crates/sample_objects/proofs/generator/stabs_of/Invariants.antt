use Rattle.std.proofs.Common.{◌≡◌}
use Rattle.std.specs.List.{flat_map, range_with_len}
use Rattle.sample_objects.specs.GeneratedProgram.{object_stabs}
use Rattle.sample_objects.proofs.generator.stabs_of.Given as goal

abbrev pub invariant-loop-k : goal.invariant-loop-k
invariant-loop-k l = l.symbols ≡ flat_map object_stabs (range_with_len 1 l.k)
