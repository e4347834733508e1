use Rattle.std.proofs.Common.{sym, ◌==◌, ◌∙◌}
use Rattle.dwarf_types.specs.declared.entry.RawAttr.{RawAttr}
use Rattle.dwarf_types.proofs.Heads.{find_none, find_there, position_within}
use Rattle.dwarf_types.proofs.WithEnds.{position_with}
use Rattle.dwarf_types.proofs.entry_ref.RawEntryRef.find.Goals as goal

pub attr-requires : goal.attr-requires
attr-requires c =
    let same = position_with c.args.name c.self.inside.entry.attrs c.self.inside.ends.now c.self.invariant in
    position_within (λ (a : RawAttr). a.name == c.args.name) c.args.self.now.attrs c.in-Some.j (rw (← c.self.view_is) (same ∙ sym c.index_of.ensures ∙ c.in-Some.is))

pub returns-in-Some : goal.returns-in-Some
returns-in-Some c =
    let same = position_with c.args.name c.self.inside.entry.attrs c.self.inside.ends.now c.self.invariant in
    sym (find_there (λ (a : RawAttr). a.name == c.args.name) c.args.self.now.attrs c.in-Some.j (rw (← c.self.view_is) (same ∙ sym c.index_of.ensures ∙ c.in-Some.is)) ∙ c.attr.ensures.stands)

pub returns-in-None : goal.returns-in-None
returns-in-None c =
    let same = position_with c.args.name c.self.inside.entry.attrs c.self.inside.ends.now c.self.invariant in
    sym (find_none (λ (a : RawAttr). a.name == c.args.name) c.args.self.now.attrs (rw (← c.self.view_is) (same ∙ sym c.index_of.ensures ∙ c.in-None.is)))
