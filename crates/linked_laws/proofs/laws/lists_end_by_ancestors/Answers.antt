use Rattle.linked_laws.proofs.Ended.{unit_ends}
use Rattle.linked_laws.proofs.laws.lists_end_by_ancestors.Goals as goal

pub returns : goal.returns
returns c = unit_ends
