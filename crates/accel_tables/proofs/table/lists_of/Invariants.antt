use Rattle.std.proofs.Common.{◌≡◌, ◌-◌, ◌≤◌, ◌++◌, length, map, drop}
use Rattle.std.specs.List.{flat_map}
use Rattle.accel_tables.specs.Table.{groups, key_of, list_bytes, starts_from}
use Rattle.accel_tables.proofs.table.lists_of.Given as goal

-- the lists so far and those of the rows that are left are all
abbrev pub invariant-loop-i : goal.invariant-loop-i
invariant-loop-i l = record {
  within : l.i ≤ length l.rows;
  hashes_are : l.hashes.items ++ map (key_of (λ r. r.hash)) (groups (λ r. r.hash) (drop l.i l.rows)) ≡ map (key_of (λ r. r.hash)) (groups (λ r. r.hash) l.rows);
  starts_are : l.starts.items ++ starts_from (length l.bytes) (map list_bytes (groups (λ r. r.hash) (drop l.i l.rows))) ≡ starts_from 0 (map list_bytes (groups (λ r. r.hash) l.rows));
  data_is : l.bytes ++ flat_map list_bytes (groups (λ r. r.hash) (drop l.i l.rows)) ≡ flat_map list_bytes (groups (λ r. r.hash) l.rows);
}

abbrev pub decreases-loop-i : goal.decreases-loop-i
decreases-loop-i l = length l.rows - l.i
