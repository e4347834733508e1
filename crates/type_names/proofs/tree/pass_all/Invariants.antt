use Rattle.type_names.specs.Tree.{IsPassedTo}
use Rattle.type_names.proofs.tree.pass_all.Given as goal

abbrev pub invariant-loop-i : goal.invariant-loop-i
invariant-loop-i l = IsPassedTo l.entries l.marks l.row l.i

abbrev pub decreases-loop-i : goal.decreases-loop-i
decreases-loop-i l = l.i
