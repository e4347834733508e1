use Rattle.std.proofs.Common.{◌≡◌, [], refl, subst, arith}
use Rattle.dwarf_types.specs.Gathered.{Gathered}
use Rattle.expr_walk.specs.Reading.{op_at, expression_of}
use Rattle.expr_walk.proofs.Cuts.{op_items, op_cuts}
use Rattle.expr_walk.proofs.Operations.{Goes, begins, fewer_left, one_more, put_is}
use Rattle.expr_walk.proofs.expression.read_ops.Goals as goal

pub loop-cursor-init : goal.loop-cursor-init
loop-cursor-init c = rw (c.requires, c.new-cursor.ensures) (begins (op_at c.args.version c.args.part) c.args.part c.args.bytes.now, refl)

pub loop-cursor-smaller : goal.loop-cursor-smaller
loop-cursor-smaller c =
    let s = c.loop-cursor.cursor in
    let p = put_is c.loop-cursor.ops.ops (op_at c.args.version c.args.part s) _ _ c.in_ok-read_op.ensures in
    fewer_left op_items s _ p.0 _ (op_cuts c.args.version c.args.part s) (omega (arith, c.loop-cursor-test.true, c.left.ensures)) p.1

pub loop-cursor-preserved : goal.loop-cursor-preserved
loop-cursor-preserved c =
    let s = c.loop-cursor.cursor in
    let p = put_is c.loop-cursor.ops.ops (op_at c.args.version c.args.part s) _ _ c.in_ok-read_op.ensures in
    let goes = one_more (op_at c.args.version c.args.part) op_items c.loop-cursor.ops.ops s c.read_op.new.cursor p.0 _ (op_cuts c.args.version c.args.part s) (omega (arith, c.loop-cursor-test.true, c.left.ensures)) p.1 c.loop-cursor.invariant.0 in
    subst (λ (q : Gathered). Goes (op_at c.args.version c.args.part) q.ops c.read_op.new.cursor (expression_of (op_at c.args.version c.args.part) c.args.part c.args.bytes.now) × (q.inner ≡ [])) p.2 (goes, refl)
