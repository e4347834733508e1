use Rattle.std.proofs.Common.{◌≡◌, ◌∙◌, ap, sym, subst, List, Option}
use Rattle.std.specs.Prelude.{IfOk}
use Rattle.dwarf_types.specs.declared.entry.Entry.{Entry}
use Rattle.type_names.specs.Entries.{Text}
use Rattle.type_names.specs.Onto.{may_open}
use Rattle.type_names.specs.Pooled.{text_if}
use Rattle.type_names.specs.Spell.{spelling}
use Rattle.type_names.proofs.Pooling.{derived_is}
use Rattle.type_names.proofs.pooled.spell_derived.Goals as goal

pub returns : goal.returns
returns c =
    let types = c.args.types.now in
    let is = derived_is c.args.seen.now c.args.live.now (may_open types) c.args.k c.args.entry.now c.requires.stands (sym c.may_be_derived.ensures ∙ c.if-not-may_be_derived.false) c.requires.common in
    subst (λ (text : Option Text). IfOk c.spell.result (λ there. text_if there c.spell.new.out.items ≡ text)) (ap (λ (entries : List Entry). spelling (may_open types) entries c.args.k) c.requires.entries ∙ is) c.spell.ensures
