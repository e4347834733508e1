use Rattle.expr_walk.proofs.Refused.{walk_faults}
use Rattle.expr_walk.proofs.laws.kinds_of_walk_faults.Goals as goal

pub returns : goal.returns
returns c = walk_faults
