use Rattle.std.proofs.Common.{◌≡◌, map}
use Rattle.std.specs.Slice.Iter.{iter_rest}
use Rattle.ds_base.specs.InOrder.{in_order}
use Rattle.ds_base.proofs.Backwards.{Done}
use Rattle.accel_tables.proofs.Order.{by_key}
use Rattle.accel_tables.proofs.rows.hash_count.Given as goal

-- the map has the hashes of the rows behind those that are left
abbrev pub invariant-loop-row : goal.invariant-loop-row
invariant-loop-row l = Done (λ done. l.hashes.entries ≡ by_key (λ hash. hash) (in_order (λ hash. hash) (map (λ r. r.hash) done))) (iter_rest l.row-iterator.iter) l.rows
