use Rattle.pool_core.proofs.machine.order_does_not_matter.Goals as goal
use Rattle.pool_core.proofs.Runs.{order_is_free}

pub returns : goal.returns
returns c = order_is_free
