use Rattle.std.proofs.Common.{◌≡◌}
use Rattle.std.specs.List.{filter, range_with_len}
use Rattle.sample_objects.specs.GeneratedProgram.{is_linked}
use Rattle.sample_objects.proofs.linked.linked_functions.Given as goal

abbrev pub invariant-loop-j : goal.invariant-loop-j
invariant-loop-j l = l.numbers ≡ filter is_linked (range_with_len 0 l.j)
