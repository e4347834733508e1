use Rattle.type_names.specs.Children.{IsTableFrom}
use Rattle.type_names.proofs.children.enter_all.Given as goal

abbrev pub invariant-loop-i : goal.invariant-loop-i
invariant-loop-i l = IsTableFrom l.entries l.first l.next l.i

abbrev pub decreases-loop-i : goal.decreases-loop-i
decreases-loop-i l = l.i
