use Rattle.std.proofs.Common.{◌≡◌, ◌++◌, take}
use Rattle.std.specs.List.{flat_map}
use Rattle.sample_objects.specs.GeneratedProgram.{function_stabs}
use Rattle.sample_objects.proofs.debug_map.add_functions_stabs.Given as goal

abbrev pub invariant-loop-j : goal.invariant-loop-j
invariant-loop-j l = l.symbols ≡ l.fn.symbols ++ flat_map (function_stabs l.i) (take l.j-index l.numbers)
