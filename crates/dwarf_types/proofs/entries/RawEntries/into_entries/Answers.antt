use Rattle.dwarf_types.proofs.WithEnds.{plain_entries}
use Rattle.dwarf_types.proofs.entries.RawEntries.into_entries.Goals as goal

pub returns : goal.returns
returns c = rw (← c.self.view_is) (plain_entries c.self.inside.entries c.self.inside.ends.items c.self.invariant)
