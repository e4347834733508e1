use Rattle.std.proofs.Common.{◌≡◌, ◌++◌, take, drop}
use Rattle.object_view.specs.Attributes.{lines_marked}
use Rattle.object_view.proofs.line_tables.stmt_list_at.Given as goal

abbrev pub invariant-loop-j : goal.invariant-loop-j
invariant-loop-j l = take l.j l.entry.attrs ++ lines_marked (drop l.j l.entry.attrs) ≡ lines_marked l.entry.attrs
