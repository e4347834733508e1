use Rattle.std.proofs.Common.{◌≡◌, ◌+◌, ◌∷◌, ◌++◌, [], ℕ, arith, subst}
use Rattle.type_pool.specs.Keeping.{AreEmpty}
use Rattle.type_pool.specs.Standing.{no_bid}
use Rattle.type_pool.proofs.Bounds.{empty_more}
use Rattle.type_pool.proofs.make.put_cells.Goals as goal

pub loop-preserved : goal.loop-preserved
loop-preserved c = λ cells before.
    let words = c.loop.words.items in
    let count : cells + c.loop.counter + 1 ≡ cells + (c.loop.counter + 1) = omega arith in
    rw (c.in_ok-push-2.ensures.items, c.in_ok-push.ensures.items)
    (subst (λ (n : ℕ). AreEmpty n ((words ++ 0 ∷ []) ++ no_bid ∷ [])) count (empty_more (cells + c.loop.counter) words (c.loop.invariant cells before)))

pub returns : goal.returns
returns c = λ cells before.
    let count : cells + c.loop.counter ≡ cells + c.args.count = omega (arith, c.loop-test.false, c.loop.auto.counter-end) in
    subst (λ (n : ℕ). AreEmpty n c.loop.words.items) count (c.loop.invariant cells before)
