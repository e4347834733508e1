use Rattle.std.proofs.Common.{◌≡◌}
use Rattle.std.specs.Slice.Iter.{iter_rest}
use Rattle.std.specs.List.{filter_map}
use Rattle.ds_base.specs.InOrder.{in_order}
use Rattle.addr_map.specs.Ranges.{range_part}
use Rattle.ds_base.proofs.Backwards.{Done}
use Rattle.addr_map.proofs.Order.{by_key}
use Rattle.addr_map.proofs.ranges.ranges_in_order.Given as goal

-- the map has the ranges behind those that are left
abbrev pub invariant-loop-one : goal.invariant-loop-one
invariant-loop-one l = Done (λ done. l.by_start.entries ≡ by_key (λ x. x.start) (in_order (λ x. x.start) (filter_map range_part done))) (iter_rest l.one-iterator.iter) l.given
