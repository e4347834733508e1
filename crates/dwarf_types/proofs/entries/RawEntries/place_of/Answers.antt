use Rattle.dwarf_types.proofs.WithEnds.{raw_long, raw_places}
use Rattle.dwarf_types.proofs.entries.RawEntries.place_of.Goals as goal

pub place_of-requires : goal.place_of-requires
place_of-requires c = rw (← c.self.view_is, raw_long c.self.inside.entries c.self.inside.ends.items) at c.requires

pub returns : goal.returns
returns c = rw (← c.self.view_is, raw_places c.self.inside.entries c.self.inside.ends.items) c.place_of.ensures
