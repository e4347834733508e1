use Rattle.std.proofs.Common.{◌∙◌, ap}
use Rattle.dwarf_types.specs.Plain.{is_plain}
use Rattle.dwarf_types.specs.declared.value.Value.{Value}
use Rattle.dwarf_types.proofs.WithEnds.{attr_from, with_long}
use Rattle.dwarf_types.proofs.entry_ref.RawEntryRef.is_plain.Goals as goal

pub is_plain-requires : goal.is_plain-requires
is_plain-requires c = rw (← c.self.view_is, with_long c.self.inside.entry.attrs c.self.inside.ends.now c.self.invariant) at c.requires

pub returns : goal.returns
returns c raw is =
    let one = attr_from c.self.inside.entry.attrs c.self.inside.ends.now c.args.j raw (rw (← c.self.view_is) at is) in
    c.is_plain.ensures one.attr one.stands ∙ ap (λ (v : Value). is_plain v) one.is
