use Rattle.std.proofs.Common.{take}
use Rattle.liveness.specs.Marking.{Grown}
use Rattle.liveness.proofs.mark.mark_all.Given as goal

abbrev pub invariant-loop-k : goal.invariant-loop-k
invariant-loop-k l = Grown l.initial.row l.initial.work.items l.row l.work.items (take l.k-index l.these)
