use Rattle.std.proofs.Common.{◌<◌, length, sym, arith, slice_index_or}
use Rattle.std.proofs.lemmas.Option.{get_or_from_slice_get}
use Rattle.dwarf_types.specs.declared.seen.RawAttrRef.{RawAttrRef}
use Rattle.dwarf_types.specs.Seen.{attr_seen, raw_attr_seen}
use Rattle.dwarf_types.proofs.WithEnds.{attr_with, with_long}
use Rattle.dwarf_types.proofs.entry_ref.RawEntryRef.attr.Goals as goal

pub attr-attr-requires : goal.attr-attr-requires
attr-attr-requires c = rw (← c.self.view_is, with_long c.self.inside.entry.attrs c.self.inside.ends.now c.self.invariant) at c.requires

pub offset_bounds-self-inside-j : goal.offset_bounds-self-inside-j
offset_bounds-self-inside-j c =
    let lt : c.args.j < length c.self.inside.entry.attrs = rw (← c.self.view_is, with_long c.self.inside.entry.attrs c.self.inside.ends.now c.self.invariant) at c.requires in
    let beside = c.self.invariant in
    omega arith

pub bounds-self-inside-j : goal.bounds-self-inside-j
bounds-self-inside-j c =
    let lt : c.args.j < length c.self.inside.entry.attrs = rw (← c.self.view_is, with_long c.self.inside.entry.attrs c.self.inside.ends.now c.self.invariant) at c.requires in
    let beside = c.self.invariant in
    omega arith

pub returns-clause-stands : goal.returns-clause-stands
returns-clause-stands c =
    let lt : c.args.j < length c.self.inside.entry.attrs = rw (← c.self.view_is, with_long c.self.inside.entry.attrs c.self.inside.ends.now c.self.invariant) at c.requires in
    let beside = c.self.invariant in
    rw (← c.self.view_is) (attr_with c.self.inside.entry.attrs c.self.inside.ends.now c.args.j (attr_seen c.attr-attr.result) 0 (omega arith) c.attr-attr.ensures.stands)

pub returns-clause-item : goal.returns-clause-item
returns-clause-item c =
    let seen : RawAttrRef = record { name = c.attr-attr.result.name; form = c.attr-attr.result.form; end = slice_index_or c.self.inside.ends.now c.args.j 0; value = c.attr-attr.result.value } in
    sym (get_or_from_slice_get c.args.self.now.attrs c.args.j (raw_attr_seen seen) (raw_attr_seen seen) (returns-clause-stands c))
