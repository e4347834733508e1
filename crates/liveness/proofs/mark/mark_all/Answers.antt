use Rattle.std.proofs.Common.{arith}
use Rattle.liveness.proofs.Marks.{grown_more}
use Rattle.liveness.proofs.mark.mark_all.Goals as goal

pub loop-k-preserved : goal.loop-k-preserved
loop-k-preserved c = grown_more _ _ _ _ _ _ c.args.these.now c.loop-k.k-index 0 (omega arith) c.loop-k.invariant c.in_ok-mark.ensures
