use Rattle.std.proofs.Common.{◌∙◌, ap, sym}
use Rattle.std.proofs.lemmas.Option.{same_Some}
use Rattle.dwarf_types.specs.declared.entry.Attr.{Attr}
use Rattle.dwarf_types.specs.Seen.{attr_seen}
use Rattle.type_names.specs.Entries.{is_field}
use Rattle.type_names.proofs.Fields.{plain_no_field}
use Rattle.type_names.proofs.entries.is_field_at.Goals as goal

pub returns-then-is_plain : goal.returns-then-is_plain
returns-then-is_plain c a is = plain_no_field a.value (sym (c.is_plain.ensures a is) ∙ c.if-is_plain.true)

pub returns : goal.returns
returns c a is = c.is_field.ensures ∙ ap (λ (x : Attr). is_field x.value) (same_Some (attr_seen c.attr.result) a (sym c.attr.ensures.stands ∙ is))
