use Rattle.std.proofs.Common.{arith}
use Rattle.patches.specs.declared.hole.Own.TheVariants as own
use Rattle.patches.specs.declared.hole.OwnPatch.{OwnPatch}
use Rattle.patches.specs.Filling.{own_bytes}
use Rattle.patches.specs.Numbers.{own_number}
use Rattle.patches.proofs.Fills.{fill_step, fill_done}
use Rattle.patches.proofs.fill.fill_all_own.Goals as goal

abbrev none : OwnPatch
none = record { at = 0; hole = own.Size }

pub fill_one_own-requires-clause-inside : goal.fill_one_own-requires-clause-inside
fill_one_own-requires-clause-inside c = let is = c.requires.inside c.loop-patch.patch-index none c.loop-patch-test.true in omega (arith, is, c.loop-patch.auto.room)

pub loop-patch-preserved : goal.loop-patch-preserved
loop-patch-preserved c = fill_step (λ p. p.at) (λ p. own_bytes (own_number c.args.len c.args.places.now) p.hole) c.args.patches.now c.loop-patch.patch-index none _ _ _ c.loop-patch-test.true c.fill_one_own.ensures c.loop-patch.invariant

pub returns : goal.returns
returns c = fill_done (λ p. p.at) (λ p. own_bytes (own_number c.args.len c.args.places.now) p.hole) c.args.patches.now c.loop-patch.patch-index _ _ (omega (arith, c.loop-patch-test.false)) c.loop-patch.invariant
