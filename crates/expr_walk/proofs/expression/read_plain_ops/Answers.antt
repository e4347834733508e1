use Rattle.std.proofs.Common.{arith, refl}
use Rattle.expr_walk.specs.Reading.{plain_at}
use Rattle.expr_walk.proofs.Cuts.{plain_items, plain_cuts}
use Rattle.expr_walk.proofs.Operations.{begins, fewer_left, one_more}
use Rattle.expr_walk.proofs.expression.read_plain_ops.Goals as goal

pub loop-cursor-init : goal.loop-cursor-init
loop-cursor-init c = rw (c.requires, c.new-cursor.ensures) (begins (plain_at c.args.version) c.args.part c.args.bytes.now, refl)

pub loop-cursor-smaller : goal.loop-cursor-smaller
loop-cursor-smaller c =
    let s = c.loop-cursor.cursor in
    fewer_left plain_items s c.read_plain_op.new.cursor _ _ (plain_cuts c.args.version s) (omega (arith, c.loop-cursor-test.true, c.left.ensures)) c.in_ok-op.ensures

pub loop-cursor-preserved : goal.loop-cursor-preserved
loop-cursor-preserved c =
    let s = c.loop-cursor.cursor in
    let goes = one_more (plain_at c.args.version) plain_items c.loop-cursor.ops.inner s c.read_plain_op.new.cursor _ _ (plain_cuts c.args.version s) (omega (arith, c.loop-cursor-test.true, c.left.ensures)) c.in_ok-op.ensures c.loop-cursor.invariant.0 in
    rw c.in_ok-push_inner.ensures.ok (goes, c.loop-cursor.invariant.1)
