use Rattle.std.proofs.Common.{◌≡◌, map, take}
use Rattle.accel_tables.specs.Table.{row_of}
use Rattle.accel_tables.proofs.rows.rows_of.Given as goal

abbrev pub invariant-loop-item : goal.invariant-loop-item
invariant-loop-item l = l.rows.items ≡ map row_of (take l.item-index l.items)
