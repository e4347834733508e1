use Rattle.name_bids.proofs.Workers.{closed_cells, closed_table}
use Rattle.name_bids.proofs.sharing.closed.Goals as goal

pub returns-clause-table : goal.returns-clause-table
returns-clause-table c =
    closed_table c.args.names.now c.args.pool c.args.seat c.args.turn.now c.in-Ok.closed.state c.requires.ended c.fairness.ensures c.in-Ok.ensures.closed.0 c.args.pool.ample.0 c.bids_are_some.ensures

pub returns-clause-cells : goal.returns-clause-cells
returns-clause-cells c = λ noted are.
    closed_cells c.args.names.now c.args.pool c.args.seat c.args.turn.now c.in-Ok.closed.state noted c.requires.ended c.fairness.ensures c.in-Ok.ensures.closed.0 are
