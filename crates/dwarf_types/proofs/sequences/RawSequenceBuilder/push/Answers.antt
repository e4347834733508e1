use Rattle.dwarf_types.proofs.LineRows.{raw_row_put}
use Rattle.dwarf_types.proofs.sequences.RawSequenceBuilder.push.Goals as goal

pub returns-clause-ok : goal.returns-clause-ok
returns-clause-ok c =
    rw (c.in_ok-push.ensures.items, ← c.self.view_is) (raw_row_put c.self.inside.rows.items c.args.row c.self.inside.open_from c.self.invariant.1 c.self.inside.ended.items c.self.invariant.0)
