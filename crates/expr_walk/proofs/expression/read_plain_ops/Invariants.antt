use Rattle.std.proofs.Common.{◌≡◌, ◌-◌}
use Rattle.expr_walk.specs.Reading.{plain_at, expression_of}
use Rattle.expr_walk.proofs.Operations.{Goes}
use Rattle.expr_walk.proofs.expression.read_plain_ops.Given as goal

abbrev pub invariant-loop-cursor : goal.invariant-loop-cursor
invariant-loop-cursor l = Goes (plain_at l.fn.version) l.ops.inner l.cursor (expression_of (plain_at l.fn.version) l.fn.part l.bytes) × (l.ops.ops ≡ l.fn.ops.ops)

abbrev pub decreases-loop-cursor : goal.decreases-loop-cursor
decreases-loop-cursor l = l.cursor.end - l.cursor.place
