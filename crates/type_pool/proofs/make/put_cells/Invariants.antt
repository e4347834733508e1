use Rattle.std.proofs.Common.{ℕ, ◌+◌}
use Rattle.type_pool.specs.Keeping.{AreEmpty}
use Rattle.type_pool.proofs.make.put_cells.Given as goal

abbrev pub invariant-loop : goal.invariant-loop
invariant-loop l = (cells : ℕ) → AreEmpty cells l.fn.words.items → AreEmpty (cells + l.counter) l.words.items
