use Rattle.std.proofs.Common.{◌+◌, length}
use Rattle.liveness.specs.Marking.{Spread, unmarked}
use Rattle.liveness.proofs.spread.spread.Given as goal

abbrev pub invariant-loop-k : goal.invariant-loop-k
invariant-loop-k l = Spread l.seen.entries l.row l.work.items

-- each pop takes one entry off, and each entry is put there once, when it is marked
abbrev pub decreases-loop-k : goal.decreases-loop-k
decreases-loop-k l = unmarked l.row + length l.work.items
