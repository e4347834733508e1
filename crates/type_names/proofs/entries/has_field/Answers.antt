use Rattle.std.proofs.Common.{◌∙◌, ◌||◌, ◌+◌, Bool, sym, ap, arith, drop}
use Rattle.std.specs.List.{list_any}
use Rattle.dwarf_types.specs.declared.entry.Attr.{Attr}
use Rattle.type_names.specs.Entries.{is_field}
use Rattle.type_names.proofs.Fields.{any_from}
use Rattle.type_names.proofs.entries.has_field.Goals as goal

pub returns-then-is_field_at : goal.returns-then-is_field_at
returns-then-is_field_at c =
    let attrs = c.args.entry.now.attrs in
    let step = any_from (λ (a : Attr). is_field a.value) attrs c.loop-j.j c.is_field_at.result (omega arith) c.is_field_at.ensures in
    sym (ap (λ (b : Bool). b || list_any (λ (a : Attr). is_field a.value) (drop (c.loop-j.j + 1) attrs)) c.if-is_field_at.true) ∙ sym step ∙ c.loop-j.invariant

pub loop-j-preserved : goal.loop-j-preserved
loop-j-preserved c =
    let attrs = c.args.entry.now.attrs in
    let step = any_from (λ (a : Attr). is_field a.value) attrs c.loop-j.j c.is_field_at.result (omega arith) c.is_field_at.ensures in
    sym (ap (λ (b : Bool). b || list_any (λ (a : Attr). is_field a.value) (drop (c.loop-j.j + 1) attrs)) c.if-is_field_at.false) ∙ sym step ∙ c.loop-j.invariant
