use Rattle.std.proofs.Common.{◌≡◌, ◌+◌, ◌<◌, ℕ, None, length, slice_index, slice_index_or}
use Rattle.name_bids.specs.Noting.{cells_in}
use Rattle.name_bids.specs.Reading.{winner_at}
use Rattle.name_bids.proofs.winners.read_winners.Given as goal

-- the names so far
abbrev pub invariant-loop-k : goal.invariant-loop-k
invariant-loop-k l =
    record {
      len : length l.part ≡ length l.fn.part;
      put : (j : ℕ) → j < l.k → slice_index l.part j ≡ winner_at l.winners (slice_index_or (cells_in l.cells) (l.start + j) None);
    }
