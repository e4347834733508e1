use Rattle.std.proofs.Common.{◌≡◌}
use Rattle.object_view.specs.Attributes.{entry_marked}
use Rattle.object_view.proofs.Marking.{so_far}
use Rattle.object_view.proofs.line_tables.mark_all.Given as goal

abbrev pub invariant-loop-i : goal.invariant-loop-i
invariant-loop-i l = l.entries ≡ so_far entry_marked l.i l.fn.entries
