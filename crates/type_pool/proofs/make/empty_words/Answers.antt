use Rattle.std.proofs.Common.{◌≡◌, ◌+◌, ◌*◌, ◌%◌, ◌++◌, ℕ, arith, subst, sym}
use Rattle.type_pool.specs.Keeping.{AreEmpty}
use Rattle.type_pool.proofs.Bounds.{empty_behind, no_cells}
use Rattle.type_pool.proofs.make.empty_words.Goals as goal

pub loop-init : goal.loop-init
loop-init c = (
  c.in_ok-put_cells.ensures 0 (subst (AreEmpty 0) (sym c.in_ok-block.ensures.items) no_cells),
  subst (AreEmpty 0) (sym c.in_ok-words.ensures.items) no_cells,
)

pub loop-preserved : goal.loop-preserved
loop-preserved c =
    let words = c.loop.words.items in
    let block = c.put_cells.new.words.items in
    let count : c.loop.counter * 1024 + 1024 ≡ (c.loop.counter + 1) * 1024 = omega arith in (
      c.loop.invariant.0,
      rw (c.in_ok-extend_from_slice.ensures.items, c.deref.ensures.value)
          (subst (λ (n : ℕ). AreEmpty n (words ++ block)) count (empty_behind (c.loop.counter * 1024) 1024 words block c.loop.invariant.1 c.loop.invariant.0)),
    )

pub returns : goal.returns
returns c =
    let count : c.loop.counter * 1024 + c.args.cells % 1024 ≡ c.args.cells = omega (arith, c.loop-test.false, c.loop.auto.counter-end) in
    subst (λ (n : ℕ). AreEmpty n c.put_cells-2.new.words.items) count (c.in_ok-put_cells-2.ensures (c.loop.counter * 1024) c.loop.invariant.1)
