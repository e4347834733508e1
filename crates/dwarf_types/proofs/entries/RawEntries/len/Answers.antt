use Rattle.std.proofs.Common.{sym, ◌∙◌}
use Rattle.dwarf_types.proofs.WithEnds.{raw_long}
use Rattle.dwarf_types.proofs.entries.RawEntries.len.Goals as goal

pub returns : goal.returns
returns c = rw (← c.self.view_is) (c.len.ensures ∙ sym (raw_long c.self.inside.entries c.self.inside.ends.items))
