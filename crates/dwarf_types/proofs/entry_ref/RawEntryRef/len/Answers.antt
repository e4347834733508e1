use Rattle.std.proofs.Common.{sym, ◌∙◌}
use Rattle.dwarf_types.proofs.WithEnds.{with_long}
use Rattle.dwarf_types.proofs.entry_ref.RawEntryRef.len.Goals as goal

pub returns : goal.returns
returns c = rw (← c.self.view_is) (c.len.ensures ∙ sym (with_long c.self.inside.entry.attrs c.self.inside.ends.now c.self.invariant))
