use Rattle.name_bids.specs.Sharing.{seat_view}
use Rattle.name_bids.proofs.Bids.{bid_cell, bid_crowded}
use Rattle.name_bids.proofs.NotedCells.{placed_cell}
use Rattle.name_bids.proofs.SeenAhead.{bid_settled}
use Rattle.name_bids.proofs.bidding.bid_name.Goals as goal

pub returns-then-known-ne0-clause-bid : goal.returns-then-known-ne0-clause-bid
returns-then-known-ne0-clause-bid c =
    bid_settled c.args.book.now.names.now c.args.pool.now.cells (seat_view c.args.seat.now) (seat_view c.settle.new.seat) c.args.x c.settle.result c.number-bid.result c.requires.book.1
    c.settle.ensures.placed c.settle.ensures.bids c.number-bid.ensures

pub returns-then-known-ne0-clause-placed : goal.returns-then-known-ne0-clause-placed
returns-then-known-ne0-clause-placed c =
    placed_cell c.args.book.now.names.now c.args.pool.now.cells (seat_view c.args.seat.now) (seat_view c.settle.new.seat) c.args.x c.settle.result c.number-bid.result c.settle.ensures.placed c.settle.ensures.bids

pub returns-in-Cell-clause-bid : goal.returns-in-Cell-clause-bid
returns-in-Cell-clause-bid c =
    bid_cell c.args.book.now.names.now c.args.pool.now.cells (seat_view c.args.seat.now) (seat_view c.place-placing.new.seat) (seat_view c.bid.new.seat) c.args.x c.in-Cell.cell c.number-bid.result c.requires.book.1
    c.in-Cell.ensures.learns c.in-Cell.ensures.placed c.in-Cell.ensures.puts c.bid.ensures.bids c.number-bid.ensures

pub returns-in-Cell-clause-placed : goal.returns-in-Cell-clause-placed
returns-in-Cell-clause-placed c =
    placed_cell c.args.book.now.names.now c.args.pool.now.cells (seat_view c.place-placing.new.seat) (seat_view c.bid.new.seat) c.args.x c.in-Cell.cell c.number-bid.result c.in-Cell.ensures.placed c.bid.ensures.bids

pub returns-in-Crowded-clause-bid : goal.returns-in-Crowded-clause-bid
returns-in-Crowded-clause-bid c =
    bid_crowded c.args.book.now.names.now c.args.pool.now.cells (seat_view c.args.seat.now) (seat_view c.place-placing.new.seat) c.args.x c.in-Crowded.ensures.learns c.in-Crowded.ensures.placed c.in-Crowded.ensures.puts
