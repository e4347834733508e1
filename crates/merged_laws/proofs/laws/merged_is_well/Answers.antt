use Rattle.merged_laws.proofs.Whole.{merged_well}
use Rattle.merged_laws.proofs.laws.merged_is_well.Goals as goal

pub returns : goal.returns
returns c = merged_well
