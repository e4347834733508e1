use Rattle.pool_core.proofs.machine.runs_fill_and_lower.Goals as goal
use Rattle.pool_core.proofs.Runs.{all_runs}

pub returns : goal.returns
returns c = all_runs
