use Rattle.loc_lists.proofs.Whole.{location_kinds}
use Rattle.loc_lists.proofs.laws.kinds_of_location_faults.Goals as goal

pub returns : goal.returns
returns c = location_kinds
