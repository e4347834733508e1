use Rattle.std.proofs.Common.{◌≡◌, ◌∙◌, ap, get_or, sym, refl}
use Rattle.unit_tree.specs.declared.reference.Reference.{Reference}
use Rattle.unit_tree.specs.Reference.{leads, resolved}
use Rattle.unit_tree.proofs.References.{reference_dangles, all_lead}
use Rattle.unit_tree.proofs.reference.resolve.Goals as goal

pub returns-in_default-clause-exact : goal.returns-in_default-clause-exact
unfolding resolved
returns-in_default-clause-exact c =
    let d : Reference = c.packed-item.result in
    let here : c.unpacked-reference.result ≡ get_or c.args.references.now c.loop-packed.packed-index d = c.unpacked-reference.ensures ∙ c.packed-item.is in
    let nowhere = ap (leads c.args.entries.now) (sym here) ∙ sym c.in_default.ensures.leads in
    let found = reference_dangles c.args.entries.now c.args.references.now c.loop-packed.packed-index d c.loop-packed-test.true nowhere c.loop-packed.invariant.0 in
    rw (found, c.from.ensures, here) refl

pub returns-clause-exact : goal.returns-clause-exact
unfolding resolved
returns-clause-exact c = rw (all_lead c.args.entries.now c.args.references.now c.loop-packed.packed-index c.loop-packed-test.false c.loop-packed.invariant.0) refl
