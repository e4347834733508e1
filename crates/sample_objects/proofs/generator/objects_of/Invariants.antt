use Rattle.std.proofs.Common.{◌≡◌, map}
use Rattle.std.specs.List.{range_with_len}
use Rattle.sample_objects.specs.GeneratedProgram.{map_object}
use Rattle.sample_objects.proofs.generator.objects_of.Given as goal

abbrev pub invariant-loop-k : goal.invariant-loop-k
invariant-loop-k l = l.objects ≡ map map_object (range_with_len 1 l.k)
