use Rattle.std.proofs.Common.{◌≡◌, ◌+◌, length}
use Rattle.std.specs.Vec.{vec_capacity}
use Rattle.type_pool.specs.Seats.{Belongs}
use Rattle.name_bids.specs.Ahead.{IsAhead}
use Rattle.name_bids.specs.Bids.{HasBid}
use Rattle.name_bids.specs.Noting.{AreCellsFrom}
use Rattle.name_bids.specs.Sharing.{seat_view}
use Rattle.name_bids.proofs.ahead.look_ahead.Given as goal

abbrev pub invariant-loop-x : goal.invariant-loop-x
invariant-loop-x l =
    record {
      belongs : Belongs l.pool l.seat;
      share : (seat_view l.seat).share ≡ (seat_view l.fn.seat).share;
      bid : HasBid l.names l.pool.cells (seat_view l.fn.seat) (seat_view l.seat) (λ x. ⊥);
      long : l.from + length l.seen.items ≡ l.x;
      capacity : vec_capacity l.seen ≡ vec_capacity l.fn.seen;
      ahead : AreCellsFrom (length l.names) (IsAhead l.names l.pool.cells (seat_view l.seat).notes) l.from l.seen.items;
    }
