use Rattle.type_names.specs.HeadRows.{AreRowsTo}
use Rattle.type_names.proofs.heads.rows_of.Given as goal

abbrev pub invariant-loop-i : goal.invariant-loop-i
invariant-loop-i l = AreRowsTo l.entries l.tied l.namespaces l.template l.i
