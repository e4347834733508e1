use Rattle.std.proofs.Common.{subst}
use Rattle.expr_walk.proofs.Cuts.{Keeps, code_keeps}
use Rattle.expr_walk.proofs.op.read_plain_op.Goals as goal

pub read_plain_behind-requires : goal.read_plain_behind-requires
read_plain_behind-requires c = rw c.fork-first.ensures (subst (Keeps c.args.cursor.now 1) c.in_ok-code.ensures (code_keeps c.args.version c.args.cursor.now))
