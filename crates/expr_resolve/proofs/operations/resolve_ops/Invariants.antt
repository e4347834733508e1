use Rattle.std.proofs.Common.{◌≡◌, []}
use Rattle.expr_resolve.specs.Expressions.{op_by, op_size}
use Rattle.expr_resolve.proofs.Each.{Told}
use Rattle.expr_resolve.proofs.operations.resolve_ops.Given as goal

abbrev pub invariant-loop-k : goal.invariant-loop-k
invariant-loop-k g l = Told op_size (op_by (g.M.Understands.meant l.by)) l.first l.stored l.ops.ops l.k l.place × (l.ops.inner ≡ [])
