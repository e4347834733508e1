use Rattle.std.proofs.Common.{◌≡◌, ◌++◌, take}
use Rattle.std.specs.List.{flat_map}
use Rattle.accel_tables.specs.Table.{word}
use Rattle.accel_tables.proofs.table.put_entries.Given as goal

abbrev pub invariant-loop-row : goal.invariant-loop-row
invariant-loop-row l = l.bytes ≡ l.fn.bytes ++ flat_map (λ r. word r.entry) (take l.row-index l.rows)
