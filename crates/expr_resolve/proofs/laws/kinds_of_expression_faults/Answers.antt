use Rattle.expr_resolve.proofs.Refused.{expression_faults}
use Rattle.expr_resolve.proofs.laws.kinds_of_expression_faults.Goals as goal

pub returns : goal.returns
returns c = expression_faults
