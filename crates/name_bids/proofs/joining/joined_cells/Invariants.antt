use Rattle.std.proofs.Common.{◌≤◌, length, take}
use Rattle.name_bids.specs.Noting.{AreJoined}
use Rattle.name_bids.proofs.joining.joined_cells.Given as goal

abbrev pub invariant-loop-i : goal.invariant-loop-i
invariant-loop-i l = (l.i ≤ length l.noted) × AreJoined (length l.names) (take l.i l.noted) l.cells.items
