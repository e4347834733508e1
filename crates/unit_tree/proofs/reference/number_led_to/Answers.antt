use Rattle.std.proofs.Common.{sym, ◌∙◌}
use Rattle.unit_tree.proofs.References.{leads_there, leads_nowhere}
use Rattle.unit_tree.proofs.reference.number_led_to.Goals as goal

pub returns-then-reaches_unit-clause-leads : goal.returns-then-reaches_unit-clause-leads
returns-then-reaches_unit-clause-leads c =
    let there = leads_there c.args.entries.now c.args.reference.now c.in-Some.i c.entry.result c.requires.rising (sym c.find.ensures ∙ c.in-Some.is) in
    sym (there ∙ rw (← c.entry.ensures.item, ← c.unit.ensures) (sym c.reaches_unit.ensures ∙ c.if-reaches_unit.true))

pub returns-else-reaches_unit-clause-leads : goal.returns-else-reaches_unit-clause-leads
returns-else-reaches_unit-clause-leads c =
    let there = leads_there c.args.entries.now c.args.reference.now c.in-Some.i c.entry.result c.requires.rising (sym c.find.ensures ∙ c.in-Some.is) in
    sym (there ∙ rw (← c.entry.ensures.item, ← c.unit.ensures) (sym c.reaches_unit.ensures ∙ c.if-reaches_unit.false))

pub returns-in-None-clause-leads : goal.returns-in-None-clause-leads
returns-in-None-clause-leads c = sym (leads_nowhere c.args.entries.now c.args.reference.now (sym c.find.ensures ∙ c.in-None.is))
