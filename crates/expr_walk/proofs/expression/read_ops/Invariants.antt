use Rattle.std.proofs.Common.{◌≡◌, ◌-◌, []}
use Rattle.expr_walk.specs.Reading.{op_at, expression_of}
use Rattle.expr_walk.proofs.Operations.{Goes}
use Rattle.expr_walk.proofs.expression.read_ops.Given as goal

abbrev pub invariant-loop-cursor : goal.invariant-loop-cursor
invariant-loop-cursor l = Goes (op_at l.fn.version l.fn.part) l.ops.ops l.cursor (expression_of (op_at l.fn.version l.fn.part) l.fn.part l.bytes) × (l.ops.inner ≡ [])

abbrev pub decreases-loop-cursor : goal.decreases-loop-cursor
decreases-loop-cursor l = l.cursor.end - l.cursor.place
