use Rattle.std.proofs.Common.{arith}
use Rattle.std.proofs.lemmas.Result.{err_from_is_err_and}
use Rattle.ds_base.proofs.Refusals.{refused_from_gives, refused_gives}
use Rattle.dwarf_types.specs.Seen.{op_seen}
use Rattle.expr_resolve.specs.Steps.{IsCut}
use Rattle.expr_resolve.specs.Expressions.{op_by, op_size}
use Rattle.expr_resolve.proofs.Each.{all_at_place, told_ends, told_put, told_refused}
use Rattle.expr_resolve.proofs.operations.resolve_ops.Goals as goal

pub resolve_op-requires-clause-cut : goal.resolve_op-requires-clause-cut
resolve_op-requires-clause-cut g c = all_at_place IsCut c.args.stored.now c.loop-k.k (op_seen c.op-op.result) c.requires.cut (omega arith) c.op-op.ensures

pub resolve_op-requires-clause-inside : goal.resolve_op-requires-clause-inside
resolve_op-requires-clause-inside g c =
    let end = told_ends op_size (op_by (g.M.Understands.meant c.args.by.now)) c.args.first c.args.stored.now c.loop-k.ops.ops c.loop-k.k c.loop-k.place (op_seen c.op-op.result) c.loop-k.invariant.0 (omega arith) c.op-op.ensures in
    omega (arith, end, c.requires.inside)

pub returns-in_err-resolve_op-clause-exact : goal.returns-in_err-resolve_op-clause-exact
returns-in_err-resolve_op-clause-exact g c =
    let p = err_from_is_err_and c.from_residual.result c.from_residual.ensures.1 in
    let op = op_seen c.op-op.result in
    let err = c.in_err-resolve_op.field-0.0 in
    let r = refused_from_gives (λ (_ : Unit {0}). c.resolve_op.new.ops) _ _ c.in_err-resolve_op.ensures in
    let h = told_refused (op_by (g.M.Understands.meant c.args.by.now)) c.args.first c.args.stored.now c.loop-k.ops.ops c.loop-k.k c.loop-k.place op err c.loop-k.invariant.0 (omega arith) c.op-op.ensures r in
    rw (p.1, p.2) (search (refused_gives, h))

pub loop-k-preserved : goal.loop-k-preserved
loop-k-preserved g c =
    told_put (op_by (g.M.Understands.meant c.args.by.now)) c.args.first c.args.stored.now c.loop-k.ops.ops c.loop-k.k c.loop-k.place (op_seen c.op-op.result) c.resolve_op.new.ops c.loop-k.invariant.0 (omega arith) c.op-op.ensures c.in_ok-resolve_op.ensures
