use Rattle.std.proofs.Common.{◌≡◌, ◌+◌, ◌≤◌, length}
use Rattle.std.specs.Vec.{vec_capacity}
use Rattle.type_pool.specs.Seats.{Belongs}
use Rattle.name_bids.specs.Ahead.{IsBetween, IsEqualAhead}
use Rattle.name_bids.specs.Bids.{HasBid}
use Rattle.name_bids.specs.Noting.{AreCellsFrom, IsPlacedAt}
use Rattle.name_bids.specs.Sharing.{seat_view}
use Rattle.name_bids.proofs.bidding.bid_known.Given as goal

abbrev pub invariant-loop-i : goal.invariant-loop-i
invariant-loop-i l =
    record {
      belongs : Belongs l.pool l.seat;
      share : (seat_view l.seat).share ≡ (seat_view l.fn.seat).share;
      within : l.i ≤ length l.known;
      behind : length l.fn.cells.items ≤ l.i;
      bid : HasBid l.names l.pool.cells (seat_view l.fn.seat) (seat_view l.seat) (IsBetween (l.first + length l.fn.cells.items) (l.first + l.i));
      long : length l.cells.items ≡ l.i;
      capacity : vec_capacity l.cells ≡ vec_capacity l.fn.cells;
      cells : AreCellsFrom (length l.names) (IsPlacedAt l.names l.pool.cells (seat_view l.seat).notes) l.first l.cells.items;
      known : AreCellsFrom (length l.names) (IsEqualAhead l.names l.pool.cells (seat_view l.seat).notes) l.first l.known;
    }
