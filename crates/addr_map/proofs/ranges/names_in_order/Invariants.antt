use Rattle.std.proofs.Common.{◌≡◌}
use Rattle.std.specs.Slice.Iter.{iter_rest}
use Rattle.std.specs.List.{filter_map}
use Rattle.ds_base.specs.InOrder.{in_order}
use Rattle.addr_map.specs.Ranges.{name_part}
use Rattle.ds_base.proofs.Backwards.{Done}
use Rattle.addr_map.proofs.Order.{by_key}
use Rattle.addr_map.proofs.ranges.names_in_order.Given as goal

-- the map has the names behind those that are left
abbrev pub invariant-loop-item : goal.invariant-loop-item
invariant-loop-item l = Done (λ done. l.by_symbol.entries ≡ by_key (λ x. x.symbol) (in_order (λ x. x.symbol) (filter_map name_part done))) (iter_rest l.item-iterator.iter) l.given
