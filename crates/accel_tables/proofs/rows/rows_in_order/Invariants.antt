use Rattle.std.proofs.Common.{◌≡◌, map}
use Rattle.std.specs.Slice.Iter.{iter_rest}
use Rattle.ds_base.specs.InOrder.{in_order}
use Rattle.ds_base.proofs.Backwards.{Done}
use Rattle.accel_tables.specs.Table.{rank}
use Rattle.accel_tables.proofs.Order.{by_key}
use Rattle.accel_tables.proofs.rows.rows_in_order.Given as goal

-- the map has the rows behind those that are left
abbrev pub invariant-loop-row : goal.invariant-loop-row
invariant-loop-row l = Done (λ done. l.by_rank.entries ≡ by_key (rank l.buckets) (in_order (rank l.buckets) (map (λ r. r) done))) (iter_rest l.row-iterator.iter) l.rows
