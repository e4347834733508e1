use Rattle.std.proofs.Common.{◌≡◌}
use Rattle.expr_resolve.specs.Expressions.{plain_size}
use Rattle.expr_resolve.proofs.Each.{Told}
use Rattle.expr_resolve.proofs.operations.resolve_inner.Given as goal

abbrev pub invariant-loop-j : goal.invariant-loop-j
invariant-loop-j g l = Told plain_size (g.M.Understands.meant l.by) l.first l.stored l.ops.inner l.j l.place × (l.ops.ops ≡ l.fn.ops.ops)
