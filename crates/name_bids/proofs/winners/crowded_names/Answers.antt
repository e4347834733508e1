use Rattle.std.proofs.Common.{arith}
use Rattle.name_bids.specs.Noting.{cells_in}
use Rattle.name_bids.proofs.Reading.{crowded_begun, crowded_done}
use Rattle.name_bids.proofs.winners.crowded_names.Goals as goal

pub loop-x-init : goal.loop-x-init
loop-x-init c = (omega arith, rw c.new-crowded.ensures.items (crowded_begun (cells_in c.args.cells.now)))

pub returns : goal.returns
returns c = crowded_done c.args.names.now (cells_in c.args.cells.now) c.loop-x.crowded.items c.loop-x.x (omega (arith, c.loop-x.invariant.0)) c.loop-x.invariant.1
