use Rattle.std.proofs.Common.{◌≡◌, map, take}
use Rattle.clone_units.specs.Noted.{marks_of_unit}
use Rattle.clone_units.proofs.noted_uses.marks_of_object.Given as goal

abbrev pub invariant-loop-unit : goal.invariant-loop-unit
invariant-loop-unit l = l.rows ≡ map marks_of_unit (take l.unit-index l.unit-items)
