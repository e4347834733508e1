use Rattle.object_laws.proofs.Sound.{linked_well}
use Rattle.object_laws.proofs.laws.what_is_linked_is_well.Goals as goal

pub returns : goal.returns
returns c = linked_well
