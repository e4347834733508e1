use Rattle.std.proofs.Common.{◌≡◌, arith, sym, ap, ◌∙◌}
use Rattle.std.proofs.lemmas.Bool.{both_ways}
use Rattle.liveness.specs.Roots.{is_below_subprogram}
use Rattle.liveness.proofs.InsideRows.{below_is_inside, tells_more_inside, tells_more_outside}
use Rattle.liveness.proofs.roots.in_subprograms.Goals.{then-is_below_subprogram, else-is_below_subprogram}
use Rattle.liveness.proofs.roots.in_subprograms.Goals as goal

pub loop-i-preserved : goal.loop-i-preserved
loop-i-preserved c =
    let is = below_is_inside c.args.entries.now c.loop-i.inside c.loop-i.i c.entry.result c.requires.parents c.loop-i.invariant c.entry.ensures.stands in
    let below : is_below_subprogram c.args.entries.now c.loop-i.inside c.entry.result.parent ≡ c.is_below_subprogram.result =
    ap (is_below_subprogram c.args.entries.now c.loop-i.inside) (sym c.parent.ensures) ∙ sym c.is_below_subprogram.ensures in
    elim c.if-is_below_subprogram.branch [
      | then-is_below_subprogram w ↦ rw (w.inside-is, w.set.ensures) (tells_more_inside c.args.entries.now c.loop-i.inside c.loop-i.i (omega arith) c.loop-i.invariant (is.0 (below ∙ w.if-is_below_subprogram.true)))
      | else-is_below_subprogram w ↦ rw w.inside-is (tells_more_outside c.args.entries.now c.loop-i.inside c.loop-i.i c.loop-i.invariant (λ h. both_ways c.is_below_subprogram.result w.if-is_below_subprogram.false (sym below ∙ is.1 h)))
    ]
