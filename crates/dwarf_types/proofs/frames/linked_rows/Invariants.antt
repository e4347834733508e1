use Rattle.std.proofs.Common.{◌≡◌, ◌++◌, drop}
use Rattle.dwarf_types.specs.FrameColumns.{linked_rows}
use Rattle.dwarf_types.proofs.frames.linked_rows.Given as goal

abbrev pub invariant-loop-i : goal.invariant-loop-i
invariant-loop-i l = l.linked.items ++ linked_rows (drop l.i l.rows) (drop l.i l.addresses) ≡ linked_rows l.rows l.addresses
