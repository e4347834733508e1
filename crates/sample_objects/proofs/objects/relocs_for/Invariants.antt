use Rattle.std.proofs.Common.{◌≡◌, map}
use Rattle.std.specs.List.{range_with_len}
use Rattle.sample_objects.specs.GeneratedProgram.{reloc_of}
use Rattle.sample_objects.proofs.objects.relocs_for.Given as goal

abbrev pub invariant-loop-j : goal.invariant-loop-j
invariant-loop-j g l = l.relocs ≡ map (reloc_of l.i) (range_with_len 0 l.j)
