use Rattle.std.proofs.Common.{◌≡◌}
use Rattle.type_pool.specs.Seats.{Belongs, known}
use Rattle.sharing_tests.proofs.tests_threads.bid_all.Given as goal

abbrev pub invariant-loop-x : goal.invariant-loop-x
invariant-loop-x l = Belongs l.pool l.seat × ((known l.seat).share ≡ (known l.fn.seat).share)
