use Rattle.std.proofs.Common.{◌∙◌, sym}
use Rattle.name_bids.proofs.Reading.{noted_inside}
use Rattle.name_bids.proofs.winners.winner_of.Goals as goal

pub bounds-winners-cell : goal.bounds-winners-cell
bounds-winners-cell c = noted_inside c.args.cells.now c.args.winners.now c.args.i c.in-Some.cell c.requires.1 c.requires.0 (sym c.noted_cell.ensures ∙ c.in-Some.is)
