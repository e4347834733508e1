use Rattle.type_pool.proofs.closed.equal_names_share_a_cell.Goals as goal
use Rattle.type_pool.proofs.Places.{equal_names_share}

pub returns : goal.returns
returns g c =
    let book = c.args.names.now in
    equal_names_share (g.N.NameBook.size book) (g.N.NameBook.same book) (g.N.NameBook.start_of book) (g.met.N.NameBook.symmetric book) (g.met.N.NameBook.transitive book) (g.met.N.NameBook.one_start book)
