use Rattle.dwarf_types.specs.WellValues.{IsTarget}
use Rattle.linked_laws.proofs.Alone.{unit_alone}
use Rattle.linked_laws.proofs.laws.well_units_are_well_alone.Goals as goal

pub returns : goal.returns
returns c = λ graph unit is. unit_alone (IsTarget graph) unit is
