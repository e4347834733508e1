use Rattle.unit_tree.proofs.Refused.{unit_faults}
use Rattle.unit_tree.proofs.laws.kinds_of_unit_faults.Goals as goal

pub returns : goal.returns
returns c = unit_faults
