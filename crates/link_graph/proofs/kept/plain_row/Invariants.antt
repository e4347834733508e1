use Rattle.std.proofs.Common.{length}
use Rattle.dwarf_types.specs.Kept.{is_plain}
use Rattle.type_names.specs.Rows.{IsRowTo}
use Rattle.link_graph.proofs.kept.plain_row.Given as goal

abbrev pub invariant-loop-i : goal.invariant-loop-i
invariant-loop-i l = IsRowTo (is_plain l.entries l.live l.merged) (length l.entries) l.row l.i
