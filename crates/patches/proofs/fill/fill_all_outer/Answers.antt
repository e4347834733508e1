use Rattle.std.proofs.Common.{arith}
use Rattle.patches.specs.declared.hole.Outer.TheVariants as outer
use Rattle.patches.specs.declared.hole.OuterPatch.{OuterPatch}
use Rattle.patches.specs.Filling.{outer_bytes}
use Rattle.patches.proofs.Fills.{fill_step, fill_done}
use Rattle.patches.proofs.fill.fill_all_outer.Goals as goal

abbrev none : OuterPatch
none = record { at = 0; hole = outer.Table }

pub fill_one_outer-requires : goal.fill_one_outer-requires
fill_one_outer-requires g c = let is = c.requires.inside c.loop-patch.patch-index none c.loop-patch-test.true in omega (arith, is, c.loop-patch.auto.room)

pub loop-patch-preserved : goal.loop-patch-preserved
loop-patch-preserved g c = fill_step (λ p. p.at) (λ p. outer_bytes (g.N.OuterNumbers.number c.args.outside.now) p.hole) c.args.patches.now c.loop-patch.patch-index none _ _ _ c.loop-patch-test.true c.fill_one_outer.ensures c.loop-patch.invariant

pub returns : goal.returns
returns g c = fill_done (λ p. p.at) (λ p. outer_bytes (g.N.OuterNumbers.number c.args.outside.now) p.hole) c.args.patches.now c.loop-patch.patch-index _ _ (omega (arith, c.loop-patch-test.false)) c.loop-patch.invariant
