use Rattle.std.proofs.Common.{Err, length, refl, sym, subst, ap, arith}
use Rattle.link_status.specs.declared.refusal.Refusal.{Refusal}
use Rattle.unit_drafts.specs.Shaped.{ShapesAll}
use Rattle.unit_drafts.proofs.Graphs.{shape_long}
use Rattle.unit_drafts.proofs.ShapesMade.{many_units}
use Rattle.unit_drafts.proofs.graph.few_units.Goals as goal

pub returns-then-len-ge-SECTION_BYTES : goal.returns-then-len-ge-SECTION_BYTES
returns-then-len-ge-SECTION_BYTES g c =
    let named = c.requires.names.0 in
    subst (λ (r : Refusal). ShapesAll c.args.odr c.args.seen.now c.args.live.now (Err r)) (sym c.too_many_units.ensures)
    (shape_long c.args.odr c.args.seen.now c.args.live.now c.args.names.now c.in-Ok.shape named (c.in-Ok.ensures.exact c.args.odr named) c.in-Ok.ensures.is c.requires.names.1
    (omega (arith, c.if-len-ge-SECTION_BYTES.true, c.len.ensures)))

pub returns-in-Err-Units : goal.returns-in-Err-Units
returns-in-Err-Units g c =
    let named = c.requires.names.0 in
    subst (λ (r : Refusal). ShapesAll c.args.odr c.args.seen.now c.args.live.now (Err r)) (sym c.too_many_units-in-Err-Units.ensures)
    (many_units c.args.odr c.args.seen.now c.args.live.now c.requires.sound c.requires.live.marked (omega (arith, c.requires.names.1, ap length named)) (rw c.in-Err-Units.field-0-is at c.in-Err-Units.ensures.units refl c.args.odr named))
