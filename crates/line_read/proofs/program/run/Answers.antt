use Rattle.std.proofs.Common.{◌-◌, refl, arith}
use Rattle.std.proofs.lemmas.Result.{err_from_is_err_and}
use Rattle.ds_base.proofs.Onward.{end_kept}
use Rattle.line_read.specs.Operation.{op_at}
use Rattle.line_read.proofs.Inside.{inside_kept}
use Rattle.line_read.proofs.OperationPlaces.{op_further}
use Rattle.line_read.proofs.ProgramLoop.{run_ends, run_more, read_refused, step_refused}
use Rattle.line_read.proofs.program.run.Goals as goal

pub loop-cursor-init : goal.loop-cursor-init
loop-cursor-init c = record {
  inside = c.requires.inside;
  so_far = record { left = c.args.program.end - c.args.program.place; enough = omega arith; is = rw (c.initial.ensures, c.new.ensures) refl };
}

pub returns-in_err-op : goal.returns-in_err-op
returns-in_err-op c =
    let at = op_at c.args.header.now c.args.image.now c.args.relocs.now in
    let p = err_from_is_err_and c.from_residual.result c.from_residual.ensures.1 in
    rw (p.1, p.2) (read_refused at c.args.header.now c.loop-cursor.matrix c.loop-cursor.cursor _ _ (omega (arith, c.loop-cursor-test.true, c.left.ensures)) c.in_err-op.ensures c.loop-cursor.invariant.so_far)

pub returns-in_err-run_op : goal.returns-in_err-run_op
returns-in_err-run_op c =
    let at = op_at c.args.header.now c.args.image.now c.args.relocs.now in
    let p = err_from_is_err_and c.from_residual-in_err-run_op.result c.from_residual-in_err-run_op.ensures.1 in
    rw (p.1, p.2) (step_refused at c.args.header.now c.loop-cursor.matrix c.run_op.new.matrix c.loop-cursor.cursor _ c.in_ok-op.op _ _ (omega (arith, c.loop-cursor-test.true, c.left.ensures)) c.in_ok-op.ensures (rw (← c.place-place.ensures) c.in_err-run_op.ensures) c.loop-cursor.invariant.so_far)

pub loop-cursor-smaller : goal.loop-cursor-smaller
loop-cursor-smaller c =
    let further = op_further c.args.header.now c.args.image.now c.args.relocs.now c.loop-cursor.cursor _ c.in_ok-op.ensures in
    omega (arith, further.some, end_kept _ _ further.onward, c.loop-cursor-test.true, c.left.ensures)

pub loop-cursor-preserved : goal.loop-cursor-preserved
loop-cursor-preserved c =
    let at = op_at c.args.header.now c.args.image.now c.args.relocs.now in
    let further = op_further c.args.header.now c.args.image.now c.args.relocs.now c.loop-cursor.cursor _ c.in_ok-op.ensures in
    record {
      inside = inside_kept _ _ _ further.onward c.loop-cursor.invariant.inside;
      so_far = run_more at c.args.header.now c.loop-cursor.matrix _ c.loop-cursor.cursor _ _ _ (omega (arith, c.loop-cursor-test.true, c.left.ensures)) c.in_ok-op.ensures further (rw (← c.place-place.ensures) c.in_ok-run_op.ensures) c.loop-cursor.invariant.so_far;
    }

pub returns : goal.returns
returns c =
    run_ends (op_at c.args.header.now c.args.image.now c.args.relocs.now) c.args.header.now c.loop-cursor.matrix c.loop-cursor.cursor _ (omega (arith, c.loop-cursor-test.false, c.left.ensures)) c.loop-cursor.invariant.so_far
