use Rattle.std.proofs.Common.{◌≡◌, ◌+◌, ◌++◌, take}
use Rattle.std.specs.List.{flat_map}
use Rattle.accel_tables.specs.Table.{word}
use Rattle.accel_tables.proofs.table.put_places.Given as goal

abbrev pub invariant-loop-start : goal.invariant-loop-start
invariant-loop-start l = l.table ≡ l.fn.table ++ flat_map (λ start. word (l.place + start)) (take l.start-index l.starts)
