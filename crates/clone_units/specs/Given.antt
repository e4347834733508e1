-- The unit that a clone gives.
use Rattle.clone_units.specs.declared.unit_clone.UnitClone.{UnitClone}
use Rattle.clone_units.specs.declared.unit_clone.UnitClone.TheVariants as clones
use Rattle.dwarf_types.specs.declared.graph.OutUnit.{OutUnit}

abbrev pub unit_given : UnitClone → OutUnit
unit_given (clones.Object unit) = unit
unit_given (clones.Pool unit) = unit
