use Rattle.std.proofs.Common.{◌≡◌, None, replicate}
use Rattle.work_share.proofs.order.places.Given as goal

abbrev pub invariant-loop : goal.invariant-loop
invariant-loop g l = l.slots.items ≡ replicate l.counter None
