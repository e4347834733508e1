use Rattle.std.proofs.Common.{◌≤◌}
use Rattle.unit_tree.specs.Table.{AreApart}
use Rattle.unit_tree.proofs.table.apart_from.Given as goal

abbrev pub invariant-loop-i : goal.invariant-loop-i
invariant-loop-i l = (l.run ≤ l.i) × AreApart l.declarations l.i l.apart
