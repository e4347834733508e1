use Rattle.std.proofs.Common.{ℕ, List, length}
use Rattle.name_bids.specs.Bids.{IsOfTasks}
use Rattle.name_bids.specs.Noting.{AreNoted, IsPlacedAt}
use Rattle.name_bids.specs.Sharing.{Belong, seat_view, turn_view}
use Rattle.name_bids.proofs.Claiming.{HasClaimed}
use Rattle.work_share.specs.Numbers.{left}
use Rattle.name_bids.proofs.bidding.bid_objects.Given as goal

abbrev pub invariant-loop-task : goal.invariant-loop-task
invariant-loop-task g l =
    record {
      belong : Belong l.pool l.work l.seat l.turn;
      drawn : List ℕ;
      claimed : HasClaimed l.names l.pool.cells (seat_view l.fn.seat) (seat_view l.seat) (turn_view l.fn.turn) (turn_view l.turn) drawn;
      cells : AreNoted (length l.names) (IsPlacedAt l.names l.pool.cells (seat_view l.seat).notes) l.noted.items (IsOfTasks l.names drawn);
    }

abbrev pub decreases-loop-task : goal.decreases-loop-task
decreases-loop-task g l = left l.work.count (turn_view l.turn).drawn
