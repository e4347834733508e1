use Rattle.std.proofs.Common.{◌≡◌, ◌-◌, ◌≤◌, ◌++◌, length, drop}
use Rattle.std.specs.List.{flat_map}
use Rattle.accel_tables.specs.Table.{groups, item_bytes}
use Rattle.accel_tables.proofs.table.put_items.Given as goal

-- the items so far and those of the rows that are left are all
abbrev pub invariant-loop-i : goal.invariant-loop-i
invariant-loop-i l = record {
  within : l.i ≤ length l.rows;
  all : l.bytes ++ flat_map item_bytes (groups (λ r. r.text) (drop l.i l.rows)) ≡ l.fn.bytes ++ flat_map item_bytes (groups (λ r. r.text) l.rows);
}

abbrev pub decreases-loop-i : goal.decreases-loop-i
decreases-loop-i l = length l.rows - l.i
