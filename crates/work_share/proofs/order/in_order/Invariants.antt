use Rattle.std.proofs.Common.{◌≡◌, ◌++◌, map, Some}
use Rattle.work_share.proofs.order.in_order.Given as goal

abbrev pub invariant-loop-slot : goal.invariant-loop-slot
invariant-loop-slot g l = (l.yielded ++ l.slot-iterator.rest.items ≡ l.initial.slot-iterator.rest.items) × (map Some l.outs.items ≡ l.yielded)
