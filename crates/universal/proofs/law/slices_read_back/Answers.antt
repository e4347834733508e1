use Rattle.universal.proofs.ReadBack.{joined_again}
use Rattle.universal.proofs.law.slices_read_back.Goals as goal

pub returns : goal.returns
returns c = joined_again
