use Rattle.dwarf_types.proofs.FrameRows.{linked_held, linked_means}
use Rattle.dwarf_types.proofs.frames.RawFrames.into_linked.Goals as goal

pub invariant_of-result : goal.invariant_of-result
invariant_of-result c = rw (c.in_ok-linked_rows.ensures, c.deref.ensures.value) (c.self.invariant.0, linked_held c.self.inside.sides c.self.inside.rows.items c.args.addresses.now c.self.invariant.1)

pub returns : goal.returns
returns c = rw (c.in_ok-linked_rows.ensures, c.deref.ensures.value, ← c.self.view_is) (linked_means c.self.inside.sides c.self.inside.rows.items c.args.addresses.now)
