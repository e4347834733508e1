use Rattle.work_share.proofs.Places.{placed_one}
use Rattle.work_share.proofs.order.in_places.Goals as goal

pub loop-one-preserved-in-Some : goal.loop-one-preserved-in-Some
loop-one-preserved-in-Some g c = placed_one c.args.count c.args.done.items c.loop-one.yielded _ _ c.loop-one.slots.items c.in-Some.one c.requires c.loop-one.invariant.0 c.in-Some.ensures.steps.0 c.loop-one.invariant.1

pub loop-one-preserved : goal.loop-one-preserved
loop-one-preserved g c = placed_one c.args.count c.args.done.items c.loop-one.yielded _ _ c.loop-one.slots.items c.in-Some.one c.requires c.loop-one.invariant.0 c.in-Some.ensures.steps.0 c.loop-one.invariant.1
