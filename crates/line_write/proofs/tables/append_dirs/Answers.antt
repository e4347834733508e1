use Rattle.std.proofs.Common.{arith}
use Rattle.ds_base.specs.Texts.{ended}
use Rattle.line_write.proofs.Pieces.{pieces_done, pieces_next}
use Rattle.line_write.proofs.tables.append_dirs.Goals as goal

pub loop-i-preserved : goal.loop-i-preserved
loop-i-preserved c = λ f. pieces_next ended c.args.dirs.now c.loop-i.i c.path.result.now _ _ _ (omega (arith, c.loop-i-test.true, c.len-i-end.ensures)) c.path.ensures.item (c.in_ok-append_text.ensures f) (c.loop-i.invariant f)

pub returns : goal.returns
returns c = λ f. pieces_done ended c.args.dirs.now c.loop-i.i _ _ (omega (arith, c.loop-i-test.false, c.len-i-end.ensures)) (c.loop-i.invariant f)
