use Rattle.std.proofs.Common.{◌≡◌, ◌++◌, drop}
use Rattle.std.specs.List.{enumerate_from, filter_map}
use Rattle.object_view.specs.Units as Units
use Rattle.object_view.proofs.units.base_types.Given as goal

abbrev pub invariant-loop-i : goal.invariant-loop-i
invariant-loop-i l = l.bases ++ filter_map Units.base_type_in (enumerate_from l.i (drop l.i l.entries)) ≡ Units.base_types l.entries
