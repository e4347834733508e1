use Rattle.std.proofs.Common.{◌≡◌, map}
use Rattle.std.specs.List.{range_with_len}
use Rattle.sample_objects.specs.GeneratedProgram.{spec_of}
use Rattle.sample_objects.specs.ObjectFile.{object_bytes}
use Rattle.sample_objects.proofs.generator.files_of.Given as goal

abbrev pub invariant-loop-k : goal.invariant-loop-k
invariant-loop-k g l = l.files ≡ map (λ i. object_bytes (spec_of i)) (range_with_len 1 l.k)
