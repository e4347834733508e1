use Rattle.std.proofs.Common.{length}
use Rattle.name_bids.specs.Noting.{AreJoined}
use Rattle.name_bids.specs.Sharing.{seat_view, turn_view}
use Rattle.name_bids.proofs.NotedCells.{joined_all}
use Rattle.name_bids.proofs.Workers.{all_noted}
use Rattle.name_bids.proofs.sharing.bid_names.Goals as goal

pub returns-clause-cells : goal.returns-clause-cells
returns-clause-cells g c =
    let names = c.args.names.now in
    let back = c.in_ok-seat in
    let noted = all_noted names c.args.table.pool c.in_ok-work.work (seat_view c.args.table.seat) (turn_view c.in_ok-work.turn) back.seat back.turn back.noted.items c.object_count-objects.result back.ensures c.in_ok-work.ensures.seat.1 in
    let joined : AreJoined (length names) back.noted.items c.in_ok-cells.cells.items = rw c.deref.ensures.value at c.in_ok-cells.ensures in
    joined_all names c.closed-closed.result.state.cells back.noted.items c.in_ok-cells.cells.items (c.closed-closed.ensures.cells back.noted.items noted) joined
