use Rattle.std.proofs.Common.{◌≡◌, ◌≤◌, length}
use Rattle.name_bids.specs.Noting.{cells_in}
use Rattle.name_bids.specs.Reading.{AreLeastFrom}
use Rattle.name_bids.proofs.least.find_least.Given as goal

abbrev pub invariant-loop-x : goal.invariant-loop-x
invariant-loop-x l = (l.x ≤ length l.names) × (length l.part ≡ length l.fn.part) × AreLeastFrom l.names l.closed.state.least (cells_in l.cells) l.x l.start l.part
