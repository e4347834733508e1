use Rattle.std.proofs.Common.{◌++◌, ◌∷◌, [], arith, length, refl}
use Rattle.name_bids.specs.Bids.{IsOfTasks}
use Rattle.name_bids.specs.Noting.{IsPlacedAt}
use Rattle.name_bids.specs.Sharing.{seat_view, turn_view}
use Rattle.name_bids.proofs.Claiming.{claimed_all, claimed_more, none_claimed, noted_task}
use Rattle.name_bids.proofs.NotedCells.{noted_as, noted_none}
use Rattle.name_bids.proofs.bidding.bid_objects.Goals as goal

pub loop-task-init : goal.loop-task-init
loop-task-init g c = record {
  belong = c.requires.seats.belong;
  drawn = [];
  claimed = none_claimed c.args.names.now c.args.pool.now.cells (seat_view c.args.seat.now) (turn_view c.args.turn.now);
  cells = rw c.new-noted.ensures.items (noted_none (length c.args.names.now) (IsPlacedAt c.args.names.now c.args.pool.now.cells (seat_view c.args.seat.now).notes) (IsOfTasks c.args.names.now []) (λ x is. absurd (omega (arith, is.1))));
}

pub loop-task-preserved : goal.loop-task-preserved
loop-task-preserved g c =
    let so_far = c.loop-task.invariant in
    let own = c.in_ok-own.ensures in
    record {
      belong = (own.belongs, c.in-Some.ensures.belongs);
      drawn = so_far.drawn ++ c.in-Some.task ∷ [];
      claimed = claimed_more c.args.names.now c.args.pool.now.cells (seat_view c.args.seat.now) (turn_view c.args.turn.now) (seat_view c.loop-task.seat) (seat_view c.bid_object.new.seat) (turn_view c.loop-task.turn) (turn_view c.claim.new.seat)
          so_far.drawn c.in-Some.task so_far.claimed c.in-Some.ensures.some.2 own.share own.bid;
      cells = rw (c.push_reserved.ensures.items, c.reserve.ensures.items) (noted_task c.args.names.now c.args.pool.now.cells (seat_view c.args.seat.now) (turn_view c.args.turn.now) (seat_view c.loop-task.seat) (seat_view c.bid_object.new.seat) so_far.drawn c.in-Some.task
          c.loop-task.noted.items c.in_ok-own.own own.bid own.cells own.whole so_far.cells);
    }

pub returns-clause-worked : goal.returns-clause-worked
returns-clause-worked g c =
    let names = c.args.names.now in
    let cells = c.args.pool.now.cells in
    let so_far = c.loop-task.invariant in
    let all = claimed_all names cells (seat_view c.args.seat.now) (turn_view c.args.turn.now) (seat_view c.loop-task.seat) (turn_view c.loop-task.turn) (turn_view c.claim.new.seat) c.args.work.now.count
    so_far.drawn c.requires.book.1 so_far.claimed c.in_default.ensures.none in
    record {
      belong = (so_far.belong.0, c.in_default.ensures.belongs);
      seat_share = all.1.share;
      turn_share = all.1.turn_share;
      ended = c.in_default.ensures.ended.0 refl;
      drawn = all.0;
      more = all.1.more;
      bid = all.1.bid;
      cells = noted_as (length names) (IsPlacedAt names cells (seat_view c.loop-task.seat).notes) c.loop-task.noted.items (IsOfTasks names so_far.drawn) (IsOfTasks names all.0) all.2 so_far.cells;
    }
