use Rattle.expr_resolve.proofs.Refused.{stored_expression_faults}
use Rattle.expr_resolve.proofs.laws.kinds_of_stored_expression_faults.Goals as goal

pub returns : goal.returns
returns c = stored_expression_faults
