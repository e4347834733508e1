use Rattle.std.proofs.Common.{◌≡◌, map}
use Rattle.std.specs.List.{range_with_len}
use Rattle.sample_objects.specs.GeneratedProgram.{symbol_of}
use Rattle.sample_objects.proofs.objects.symbols_for.Given as goal

abbrev pub invariant-loop-j : goal.invariant-loop-j
invariant-loop-j l = l.symbols ≡ map (symbol_of l.i) (range_with_len 0 l.j)
