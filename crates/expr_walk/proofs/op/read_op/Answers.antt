use Rattle.std.proofs.Common.{subst}
use Rattle.expr_walk.proofs.Cuts.{Keeps, code_keeps}
use Rattle.expr_walk.proofs.op.read_op.Goals as goal

pub read_op_behind-requires-clause-ahead : goal.read_op_behind-requires-clause-ahead
read_op_behind-requires-clause-ahead c = rw c.fork-first.ensures (subst (Keeps c.args.cursor.now 1) c.in_ok-code.ensures (code_keeps c.args.version c.args.cursor.now))
