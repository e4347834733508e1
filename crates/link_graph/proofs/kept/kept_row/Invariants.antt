use Rattle.std.proofs.Common.{length}
use Rattle.dwarf_types.specs.Kept.{kept_of}
use Rattle.type_names.specs.Rows.{IsRowTo}
use Rattle.type_names.specs.Tree.{is_marked}
use Rattle.link_graph.proofs.kept.kept_row.Given as goal

abbrev pub invariant-loop-i : goal.invariant-loop-i
invariant-loop-i l = IsRowTo (is_marked (kept_of l.entries l.live l.merged)) (length l.entries) l.row l.i
