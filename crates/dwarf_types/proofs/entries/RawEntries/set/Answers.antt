use Rattle.std.proofs.Common.{◌<◌, List, ap, arith, get_or, length, set, ◌∙◌}
use Rattle.std.proofs.lemmas.List.{length-set}
use Rattle.std.proofs.lemmas.Option.{slice_get_within}
use Rattle.dwarf_types.specs.declared.entry.Attr.{Attr}
use Rattle.dwarf_types.specs.declared.entry.Entry.{Entry}
use Rattle.dwarf_types.specs.Put.{value_put}
use Rattle.dwarf_types.specs.Raw.{raw_attr, raw_entries, raw_entry}
use Rattle.dwarf_types.proofs.WithEnds.{attr_with, count_same, own_ends, own_long, raw_at, raw_from, there_is, written}
use Rattle.dwarf_types.proofs.entries.RawEntries.set.Goals as goal

pub set-requires-clause-stands : goal.set-requires-clause-stands
set-requires-clause-stands c =
    let read = rw (← c.self.view_is) at c.requires.stands.1 in
    let from = raw_from c.self.inside.entries c.self.inside.ends.items c.args.i c.requires.stands.0 read in
    (from.0, from.1, omega (arith, from.2, c.requires.stands.2))

pub set-requires-clause-becomes : goal.set-requires-clause-becomes
set-requires-clause-becomes c e a is has =
    let entries = c.self.inside.entries in
    let ends = c.self.inside.ends.items in
    let own = own_ends entries ends c.args.i e in
    let there = raw_at entries ends c.args.i e is in
    let within : c.args.j < length e.attrs = slice_get_within e.attrs c.args.j a has in
    let attr = attr_with e.attrs own c.args.j a 0 (omega (arith, within, own_long entries ends c.args.i e c.self.invariant is)) has in
    c.requires.becomes (raw_entry e own) (raw_attr (a, get_or own c.args.j 0)) (rw (← c.self.view_is) there) attr

pub invariant_of-self-2 : goal.invariant_of-self-2
invariant_of-self-2 c =
    let entries = c.self.inside.entries in
    let read = rw (← c.self.view_is) at c.requires.stands.1 in
    let from = raw_from entries c.self.inside.ends.items c.args.i c.requires.stands.0 read in
    let e : Entry = from.0 in
    let one = there_is e.attrs c.args.j (omega (arith, from.2, c.requires.stands.2)) in
    let attr : Attr = record one.0 { value = value_put c.args.value } in
    let to : Entry = record e { attrs = set e.attrs c.args.j attr } in
    let new = c.in_ok-set.ensures.ok e one.0 from.1 one.1 in
    let same = count_same entries c.args.i e to from.1 (length-set e.attrs c.args.j attr) in
    rw (new, same) c.self.invariant

pub returns-clause-ok : goal.returns-clause-ok
returns-clause-ok c raw a is has =
    let ends = c.self.inside.ends.items in
    let one = written c.self.inside.entries ends c.args.i c.args.j raw a (rw (← c.self.view_is) at is) has in
    let new = c.in_ok-set.ensures.ok one.entry one.attr one.stands one.has in
    rw (← c.self.view_is) (ap (λ (entries : List Entry). raw_entries entries ends) new ∙ one.becomes (value_put c.args.value))
