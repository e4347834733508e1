use Rattle.std.proofs.Common.{List, ℕ, ◌∙◌, ap, subst}
use Rattle.pool_core.specs.declared.state.PoolState.{PoolState}
use Rattle.type_pool.specs.ClosedWords.{ClosedTable, state_of}
use Rattle.type_pool.specs.Ends.{Finds}
use Rattle.type_pool.proofs.closed.find.Goals as goal

pub returns : goal.returns
returns g c =
    let book = c.args.names.now in
    let state = ap (λ (l : List ℕ). state_of l) c.as_slice.ensures.value ∙ ap (λ (t : ClosedTable). t.state) c.closed.view_is in
    subst (λ (s : PoolState). Finds (g.N.NameBook.same book) (g.N.NameBook.start_of book) s c.args.x c.find_among.result) state c.find_among.ensures
