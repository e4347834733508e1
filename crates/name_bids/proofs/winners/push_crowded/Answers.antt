use Rattle.name_bids.specs.Noting.{cells_in}
use Rattle.name_bids.proofs.Reading.{crowded_more, crowded_other, none_at, some_at}
use Rattle.name_bids.proofs.winners.push_crowded.Goals as goal

pub returns-then-cells-x-ne0 : goal.returns-then-cells-x-ne0
returns-then-cells-x-ne0 c =
    crowded_other (cells_in c.args.cells.now) c.args.crowded.now.items c.args.x (some_at c.args.cells.now c.args.x c.requires.name c.if-cells-x-ne0.true) c.requires.so_far

pub returns : goal.returns
returns c =
    rw c.in_ok-push.ensures.items (crowded_more (cells_in c.args.cells.now) c.args.crowded.now.items c.args.x (none_at c.args.cells.now c.args.x c.requires.name c.if-cells-x-ne0.false) c.requires.so_far)
