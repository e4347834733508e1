use Rattle.std.proofs.Common.{◌≡◌, length, map, take}
use Rattle.dwarf_types.specs.LineProgram.{sequence_bytes}
use Rattle.sample_objects.proofs.lines.sizes_of.Given as goal

abbrev pub invariant-loop-i : goal.invariant-loop-i
invariant-loop-i l = l.sizes ≡ map (λ s. length (sequence_bytes s)) (take l.i l.sequences)
