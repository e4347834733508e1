use Rattle.liveness.specs.Roots.{TellsInside}
use Rattle.liveness.proofs.roots.in_subprograms.Given as goal

abbrev pub invariant-loop-i : goal.invariant-loop-i
invariant-loop-i l = TellsInside l.entries l.inside l.i
