use Rattle.liveness.specs.ChildTable.{IsTable}
use Rattle.liveness.proofs.children.children_of.Given as goal

abbrev pub invariant-loop-i : goal.invariant-loop-i
invariant-loop-i l = IsTable l.entries l.i l.last.items l.before.items
