use Rattle.std.proofs.Common.{sym, ◌==◌, ◌∙◌}
use Rattle.dwarf_types.specs.declared.entry.Attr.{Attr}
use Rattle.dwarf_types.proofs.Heads.{find_none, find_there, position_within}
use Rattle.dwarf_types.proofs.entry_ref.EntryRef.find.Goals as goal

pub attr-requires : goal.attr-requires
attr-requires c = position_within (λ (a : Attr). a.name == c.args.name) c.args.self.now.attrs c.in-Some.j (sym c.index_of.ensures ∙ c.in-Some.is)

pub returns-in-Some : goal.returns-in-Some
returns-in-Some c = sym (find_there (λ (a : Attr). a.name == c.args.name) c.args.self.now.attrs c.in-Some.j (sym c.index_of.ensures ∙ c.in-Some.is) ∙ c.attr.ensures.stands)

pub returns-in-None : goal.returns-in-None
returns-in-None c = sym (find_none (λ (a : Attr). a.name == c.args.name) c.args.self.now.attrs (sym c.index_of.ensures ∙ c.in-None.is))
