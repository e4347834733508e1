use Rattle.unit_tree.proofs.UnitLaws.{units_spelled}
use Rattle.unit_tree.proofs.UnitReads.{units_read}
use Rattle.unit_tree.proofs.laws.units_are_read_as_spelled.Goals as goal

pub returns : goal.returns
returns c = record { found = units_spelled; only = units_read }
