use Rattle.std.proofs.Common.{◌≡◌, ◌++◌}
use Rattle.work_share.specs.Worked.{InPlaces}
use Rattle.work_share.proofs.order.in_places.Given as goal

abbrev pub invariant-loop-one : goal.invariant-loop-one
invariant-loop-one g l = (l.yielded ++ l.one-iterator.rest.items ≡ l.fn.done.items) × InPlaces l.count l.yielded l.slots.items
