use Rattle.dwarf_types.proofs.PackedOps.{wide_put}
use Rattle.dwarf_types.proofs.op_rows.OpRows.push_wide.Goals as goal

pub returns-clause-ok : goal.returns-clause-ok
returns-clause-ok c =
    rw (c.push_reserved.ensures.items, c.in_ok-reserve.ensures.items, c.in_ok-push.ensures.items, c.wide_at.ensures, c.len-place.ensures, c.self.inside.wide.ok.0, ← c.self.view_is)
    (wide_put c.self.inside.wide.items c.args.row c.self.inside.packed.items c.self.invariant)
