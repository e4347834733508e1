use Rattle.std.proofs.Common.{◌+◌, ◌*◌}
use Rattle.sharing_tests.proofs.tests_threads.+bidders.Given as goal

abbrev pub decreases-join+arg2 : goal.decreases-join+arg2
decreases-join+arg2 g l = 2 * l.left + 1

abbrev pub decreases-join+arg3 : goal.decreases-join+arg3
decreases-join+arg3 g l = 2 * l.left + 1

abbrev pub decreases-bid_by : goal.decreases-bid_by
decreases-bid_by g l = 2 * l.forks
