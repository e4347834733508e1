use Rattle.std.proofs.Common.{◌≤◌, length}
use Rattle.name_bids.specs.Noting.{cells_in}
use Rattle.name_bids.specs.Reading.{AreCrowdedTo}
use Rattle.name_bids.proofs.winners.crowded_names.Given as goal

abbrev pub invariant-loop-x : goal.invariant-loop-x
invariant-loop-x l = (l.x ≤ length l.names) × AreCrowdedTo (cells_in l.cells) l.crowded.items l.x
