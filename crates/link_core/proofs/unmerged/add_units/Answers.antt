use Rattle.std.proofs.Common.{ℕ, subst}
use Rattle.link_graph.specs.OwnShapes.{IsOwnShape}
use Rattle.link_graph.specs.Passes.{marked}
use Rattle.link_core.specs.Unmerged.{HasUnits}
use Rattle.link_core.proofs.Unmerging.{many_still, units_few}
use Rattle.link_core.proofs.unmerged.add_units.Goals as goal

pub returns-then-many : goal.returns-then-many
returns-then-many c = λ seen marks behind same units. many_still seen marks c.args.analysis.now c.args.live.now behind c.args.shape.now (subst (HasUnits seen marks c.args.shape.now) c.if-many.true units)

pub returns : goal.returns
returns c =
    λ seen marks behind same units.
    let few = units_few seen marks c.args.shape.now c.args.many c.if-many.false units in
    c.grow.ensures seen marks c.args.analysis.now c.args.live.now behind few.0 (subst (λ (n : ℕ). IsOwnShape n (marked c.args.analysis.now c.args.live.now) c.in_ok-own.own) same c.in_ok-own.ensures)
