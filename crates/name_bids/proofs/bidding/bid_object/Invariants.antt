use Rattle.std.proofs.Common.{◌≡◌, ◌+◌, ◌-◌, ◌≤◌, length}
use Rattle.std.specs.Vec.{vec_capacity}
use Rattle.type_pool.specs.Seats.{Belongs}
use Rattle.name_bids.specs.Ahead.{IsEqualAhead}
use Rattle.name_bids.specs.Bids.{HasBid}
use Rattle.name_bids.specs.Noting.{AreCellsFrom, IsPlacedAt}
use Rattle.name_bids.specs.Sharing.{seat_view}
use Rattle.name_bids.proofs.Claiming.{IsOfObjectTo}
use Rattle.name_bids.proofs.bidding.bid_object.Given as goal

abbrev pub invariant-loop-x : goal.invariant-loop-x
invariant-loop-x l =
    record {
      belongs : Belongs l.pool l.seat;
      share : (seat_view l.seat).share ≡ (seat_view l.fn.seat).share;
      bid : HasBid l.names l.pool.cells (seat_view l.fn.seat) (seat_view l.seat) (IsOfObjectTo l.names l.object l.x);
      range : (l.first ≤ l.x) × (l.x ≤ l.end) × (l.end ≤ length l.names);
      long : (l.first + length l.cells.items ≡ l.x) × (l.first + length l.known.items ≡ l.x);
      room : (16 ≤ vec_capacity l.seen) × (16 ≤ vec_capacity l.likely) × (l.end - l.first ≤ vec_capacity l.known) × (l.end - l.first ≤ vec_capacity l.cells);
      cells : AreCellsFrom (length l.names) (IsPlacedAt l.names l.pool.cells (seat_view l.seat).notes) l.first l.cells.items;
      known : AreCellsFrom (length l.names) (IsEqualAhead l.names l.pool.cells (seat_view l.seat).notes) l.first l.known.items;
    }

abbrev pub decreases-loop-x : goal.decreases-loop-x
decreases-loop-x l = l.end - l.x
