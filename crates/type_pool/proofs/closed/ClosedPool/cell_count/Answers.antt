use Rattle.std.proofs.Common.{◌≡◌, length, sym, subst}
use Rattle.type_pool.specs.ClosedWords.{ClosedTable}
use Rattle.type_pool.proofs.closed.ClosedPool.cell_count.Goals as goal
use Rattle.type_pool.proofs.ClosedWords.{length-least_words, length-name_words}

pub returns-clause-cells : goal.returns-clause-cells
returns-clause-cells c =
    subst (λ (t : ClosedTable). c.self.inside.cells ≡ length t.state.cells) c.self.view_is (sym (length-name_words c.self.inside.words.items c.self.inside.cells c.self.invariant.wide))

pub returns-clause-least : goal.returns-clause-least
returns-clause-least c =
    subst (λ (t : ClosedTable). c.self.inside.cells ≡ length t.state.least) c.self.view_is (sym (length-least_words c.self.inside.words.items c.self.inside.cells c.self.invariant.wide))
