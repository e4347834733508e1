use Rattle.std.proofs.Common.{◌≡◌, ◌∙◌, sym, map}
use Rattle.std.proofs.lemmas.List.{length-map}
use Rattle.odr_names.specs.Winners.{ArePut}
use Rattle.name_bids.specs.Noting.{cell_in, cells_in}
use Rattle.name_bids.specs.Reading.{AreInside, winner_at}
use Rattle.name_bids.proofs.Reading.{all_win, are_inside, crowded_inside, crowded_whole, inside_of}
use Rattle.name_bids.proofs.winners.winners_in.Goals as goal

pub least_names-requires-clause-len : goal.least_names-requires-clause-len
least_names-requires-clause-len g c κs within = sym (length-map c.args.cells.now cell_in) ∙ c.requires.cells.len

pub least_names-requires-clause-inside : goal.least_names-requires-clause-inside
least_names-requires-clause-inside g c κs within = are_inside c.args.names.now c.args.closed.now.state.cells (cells_in c.args.cells.now) c.requires.cells

pub winners_at_cells-requires-clause-cells : goal.winners_at_cells-requires-clause-cells
winners_at_cells-requires-clause-cells g c κs within =
    let state = c.args.closed.now.state in
    let cells = cells_in c.args.cells.now in
    let here : AreInside c.in_ok-least.least.items cells = inside_of state.cells c.in_ok-least.least.items cells (c.in_ok-least.ensures.len ∙ c.requires.table.words) (are_inside c.args.names.now state.cells cells c.requires.cells) in
    rw c.deref.ensures.value here

pub put_winners-requires-clause-inside : goal.put_winners-requires-clause-inside
put_winners-requires-clause-inside g c =
    rw c.deref-2.ensures.value (crowded_inside c.args.names.now c.args.closed.now.state (cells_in c.args.cells.now) c.in_ok-crowded.crowded.items c.requires.table c.requires.cells c.in_ok-crowded.ensures)

pub put_winners-requires-clause-whole : goal.put_winners-requires-clause-whole
put_winners-requires-clause-whole g c =
    rw c.deref-2.ensures.value (crowded_whole c.args.names.now c.args.closed.now.state (cells_in c.args.cells.now) c.in_ok-crowded.crowded.items c.requires.table c.requires.cells c.in_ok-crowded.ensures)

pub returns : goal.returns
returns g c =
    let names = c.args.names.now in
    let state = c.args.closed.now.state in
    let cells = cells_in c.args.cells.now in
    let is : c.in_ok-winners.winners.items ≡ map (winner_at c.in_ok-least.least.items) cells = rw c.deref.ensures.value at c.in_ok-winners.ensures in
    let put : ArePut names c.in_ok-crowded.crowded.items c.in_ok-winners.winners.items c.put_winners.new.winners.items = rw c.deref-2.ensures.value at c.in_ok-put_winners.ensures.put in
    all_win names state cells c.in_ok-crowded.crowded.items c.requires.table c.requires.cells c.in_ok-crowded.ensures
    c.in_ok-least.least.items c.in_ok-winners.winners.items c.put_winners.new.winners.items c.in_ok-least.ensures is put
