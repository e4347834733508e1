use Rattle.std.proofs.Common.{◌≡◌, ℕ, List, length}
use Rattle.std.specs.Vec.{vec_capacity}
use Rattle.name_bids.specs.Ahead.{IsAhead}
use Rattle.name_bids.specs.Noting.{AreCellsFrom}
use Rattle.name_bids.proofs.ahead.leave_others.Given as goal

abbrev pub invariant-loop-i : goal.invariant-loop-i
invariant-loop-i l =
    record {
      long : length l.likely.items ≡ l.i;
      capacity : vec_capacity l.likely ≡ vec_capacity l.fn.likely;
      ahead : (cells : ℕ) (notes : List (ℕ × ℕ)) → AreCellsFrom (length l.names) (IsAhead l.names cells notes) l.from l.seen → AreCellsFrom (length l.names) (IsAhead l.names cells notes) l.from l.likely.items;
    }
