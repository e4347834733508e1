use Rattle.std.proofs.Common.{ap, arith}
use Rattle.expr_walk.specs.Length.{ops_len}
use Rattle.expr_resolve.specs.Context.{context_in}
use Rattle.expr_resolve.proofs.Meant.{ops_known, ops_same_length}
use Rattle.expr_resolve.proofs.expression.understand.Goals as goal

pub returns-clause-known : goal.returns-clause-known
returns-clause-known c = ops_known (context_in c.args.context.now) c.args.first c.as_ref-stored.result c.resolve_ops.new.ops.ops c.in_ok-resolve_ops.ensures.exact

pub returns-clause-short : goal.returns-clause-short
returns-clause-short c =
    let same = ops_same_length (context_in c.args.context.now) c.args.first c.as_ref-stored.result c.resolve_ops.new.ops.ops c.in_ok-resolve_ops.ensures.exact in
    omega (arith, same, ap ops_len c.as_ref-stored.ensures, c.in_ok-cut.ensures.short)
