use Rattle.std.proofs.lemmas.Bool.{eq-eqb}
use Rattle.dwarf_types.specs.Seen.{attr_seen}
use Rattle.object_view.proofs.Marking.{first_at}
use Rattle.object_view.proofs.line_tables.stmt_list_at.Goals as goal

pub returns-then-attr-eq-DW_AT_stmt_list : goal.returns-then-attr-eq-DW_AT_stmt_list
returns-then-attr-eq-DW_AT_stmt_list c =
    first_at c.args.entry.now.attrs c.loop-j.j (attr_seen c.attr.result) c.loop-j.invariant c.attr.ensures.stands (eq-eqb _ _ c.if-attr-eq-DW_AT_stmt_list.true)
