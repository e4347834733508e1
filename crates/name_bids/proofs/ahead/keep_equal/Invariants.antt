use Rattle.std.proofs.Common.{◌≡◌, ◌+◌, ℕ, List, length}
use Rattle.std.specs.Vec.{vec_capacity}
use Rattle.odr_names.specs.Known.{AreKnown}
use Rattle.name_bids.specs.Ahead.{IsAhead, IsEqualAhead}
use Rattle.name_bids.specs.Noting.{AreCellsFrom}
use Rattle.name_bids.proofs.ahead.keep_equal.Given as goal

abbrev pub invariant-loop-i : goal.invariant-loop-i
invariant-loop-i l =
    record {
      long : length l.known.items ≡ length l.fn.known.items + l.i;
      capacity : vec_capacity l.known ≡ vec_capacity l.fn.known;
      known : AreKnown l.names l.first l.known.items;
      ahead : (cells : ℕ) (notes : List (ℕ × ℕ)) → AreCellsFrom (length l.names) (IsAhead l.names cells notes) (l.first + length l.fn.known.items) l.likely
          → AreCellsFrom (length l.names) (IsEqualAhead l.names cells notes) l.first l.fn.known.items → AreCellsFrom (length l.names) (IsEqualAhead l.names cells notes) l.first l.known.items;
    }
