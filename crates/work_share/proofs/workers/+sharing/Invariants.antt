use Rattle.std.proofs.Common.{◌+◌, ◌*◌}
use Rattle.work_share.proofs.workers.+sharing.Given as goal

abbrev pub decreases-join+arg2 : goal.decreases-join+arg2
decreases-join+arg2 g l = 2 * l.front + 1

abbrev pub decreases-join+arg3 : goal.decreases-join+arg3
decreases-join+arg3 g l = 2 * l.back + 1

abbrev pub decreases-shared_out : goal.decreases-shared_out
decreases-shared_out g l = 2 * l.workers
