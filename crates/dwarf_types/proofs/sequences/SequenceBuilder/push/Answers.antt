use Rattle.dwarf_types.proofs.LineRows.{row_put}
use Rattle.dwarf_types.proofs.sequences.SequenceBuilder.push.Goals as goal

pub returns-clause-ok : goal.returns-clause-ok
returns-clause-ok c =
    rw (c.in_ok-push.ensures.ok, ← c.self.view_is) (row_put c.self.inside.rows c.args.row c.self.inside.open_from c.self.invariant.1 c.self.inside.ended.items c.self.invariant.0)
