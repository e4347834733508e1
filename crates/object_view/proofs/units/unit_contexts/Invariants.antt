use Rattle.std.proofs.Common.{◌≡◌, take}
use Rattle.object_view.specs.Units as Units
use Rattle.object_view.proofs.units.unit_contexts.Given as goal

abbrev pub invariant-loop-unit : goal.invariant-loop-unit
invariant-loop-unit l = l.contexts ≡ Units.contexts_of l.entries (take l.unit-index l.units)
