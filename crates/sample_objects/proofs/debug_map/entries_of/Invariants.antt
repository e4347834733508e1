use Rattle.std.proofs.Common.{◌≡◌, map, take}
use Rattle.sample_objects.specs.GeneratedProgram.{map_entry}
use Rattle.sample_objects.proofs.debug_map.entries_of.Given as goal

abbrev pub invariant-loop-j : goal.invariant-loop-j
invariant-loop-j l = l.entries ≡ map (map_entry l.i) (take l.j-index l.numbers)
