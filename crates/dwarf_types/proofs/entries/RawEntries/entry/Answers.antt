use Rattle.std.proofs.Common.{sym}
use Rattle.std.proofs.lemmas.Option.{get_or_from_slice_get}
use Rattle.dwarf_types.proofs.WithEnds.{own_long, raw_at, raw_long, within_ends}
use Rattle.dwarf_types.proofs.entries.RawEntries.entry.Goals as goal

pub entry-entry-requires : goal.entry-entry-requires
entry-entry-requires c = rw (← c.self.view_is, raw_long c.self.inside.entries c.self.inside.ends.items) at c.requires

pub attrs_before-requires : goal.attrs_before-requires
attrs_before-requires c = rw (← c.self.view_is, raw_long c.self.inside.entries c.self.inside.ends.items) at c.requires

pub ends_in-ends-requires : goal.ends_in-ends-requires
ends_in-ends-requires c =
    rw (c.attrs_before.ensures, c.len.ensures, c.deref.ensures.value) (within_ends c.self.inside.entries c.self.inside.ends.items c.args.i c.entry-entry.result c.self.invariant c.entry-entry.ensures.stands)

pub new-requires : goal.new-requires
new-requires c =
    rw (c.ends_in-ends.ensures, c.attrs_before.ensures, c.len.ensures, c.deref.ensures.value) (own_long c.self.inside.entries c.self.inside.ends.items c.args.i c.entry-entry.result c.self.invariant c.entry-entry.ensures.stands)

pub returns-clause-stands : goal.returns-clause-stands
returns-clause-stands c =
    rw (← c.self.view_is, c.new.ensures, c.ends_in-ends.ensures, c.attrs_before.ensures, c.len.ensures, c.deref.ensures.value) (raw_at c.self.inside.entries c.self.inside.ends.items c.args.i c.entry-entry.result c.entry-entry.ensures.stands)

pub returns-clause-item : goal.returns-clause-item
returns-clause-item c = sym (get_or_from_slice_get c.args.self.now c.args.i c.new.result c.new.result (returns-clause-stands c))
