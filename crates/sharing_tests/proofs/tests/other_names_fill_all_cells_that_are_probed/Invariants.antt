use Rattle.type_pool.specs.Seats.{Belongs}
use Rattle.sharing_tests.proofs.tests.other_names_fill_all_cells_that_are_probed.Given as goal

abbrev pub invariant-loop-x : goal.invariant-loop-x
invariant-loop-x g l = Belongs l.pool l.seat
