use Rattle.unit_tree.specs.Table.{IsRun}
use Rattle.unit_tree.proofs.table.run_of.Given as goal

abbrev pub invariant-loop-i : goal.invariant-loop-i
invariant-loop-i l = IsRun l.declarations l.i
