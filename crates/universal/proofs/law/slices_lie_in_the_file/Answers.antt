use Rattle.universal.proofs.Within.{slices_within}
use Rattle.universal.proofs.law.slices_lie_in_the_file.Goals as goal

pub returns : goal.returns
returns c = slices_within
