use Rattle.std.proofs.Common.{◌≡◌, ◌+◌, ◌*◌, ◌<◌, ℕ, List, get_or, sym, ap, ◌∙◌, subst, arith}
use Rattle.type_pool.specs.ClosedWords.{ClosedTable}
use Rattle.type_pool.proofs.closed.ClosedPool.least_word.Goals as goal
use Rattle.type_pool.proofs.ClosedWords.{cell_inside, least_words_at}

pub overflow_mul-result : goal.overflow_mul-result
overflow_mul-result c =
    let inside : c.args.cell < c.self.inside.cells = cell_inside _ _ _ c.args.cell _ c.self.invariant c.self.view_is c.requires in
    omega (arith, inside, c.self.invariant.ample)

pub overflow_add-result : goal.overflow_add-result
overflow_add-result c =
    let inside : c.args.cell < c.self.inside.cells = cell_inside _ _ _ c.args.cell _ c.self.invariant c.self.view_is c.requires in
    omega (arith, inside, c.self.invariant.ample)

pub bounds-as_slice-cell : goal.bounds-as_slice-cell
bounds-as_slice-cell c =
    let inside : c.args.cell < c.self.inside.cells = cell_inside _ _ _ c.args.cell _ c.self.invariant c.self.view_is c.requires in
    omega (arith, inside, c.self.invariant.wide, c.as_slice.ensures.len)

pub offset_bounds-as_slice-cell : goal.offset_bounds-as_slice-cell
offset_bounds-as_slice-cell c =
    let inside : c.args.cell < c.self.inside.cells = cell_inside _ _ _ c.args.cell _ c.self.invariant c.self.view_is c.requires in
    omega (arith, inside, c.self.invariant.ample)

pub returns : goal.returns
returns c =
    subst (λ (t : ClosedTable). get_or c.as_slice.result.now (2 * c.args.cell + 1) 0 ≡ get_or t.state.least c.args.cell 0) c.self.view_is
    (ap (λ (l : List ℕ). get_or l (2 * c.args.cell + 1) 0) c.as_slice.ensures.value ∙ sym (least_words_at c.self.inside.words.items c.args.cell))
