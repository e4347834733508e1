use Rattle.std.proofs.Common.{ℕ, ap, ◌∙◌}
use Rattle.type_pool.specs.Pairs.{Has}
use Rattle.type_pool.specs.Seats.{known}
use Rattle.type_pool.specs.Standing.{probe}
use Rattle.type_pool.proofs.Places.{stands_first}
use Rattle.type_pool.proofs.table.Pool.settle.Goals as goal

pub returns-clause-placed : goal.returns-clause-placed
returns-clause-placed g c =
    let start = g.N.NameBook.start_of c.args.names.now c.args.x c.args.self.now.cells in
    stands_first (g.N.NameBook.same c.args.names.now) (Has (known c.args.seat.now).notes) start c.args.self.now.cells c.args.x c.probed-cell.result c.requires.seen.0
    (c.probed-cell.ensures.cell ∙ ap (λ (s : ℕ). probe s c.args.self.now.cells 0) c.start.ensures) c.requires.seen.1 c.requires.seen.2
