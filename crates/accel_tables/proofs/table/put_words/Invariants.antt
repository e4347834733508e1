use Rattle.std.proofs.Common.{◌≡◌, ◌++◌, take}
use Rattle.std.specs.List.{flat_map}
use Rattle.accel_tables.specs.Table.{word}
use Rattle.accel_tables.proofs.table.put_words.Given as goal

abbrev pub invariant-loop-n : goal.invariant-loop-n
invariant-loop-n l = l.table ≡ l.fn.table ++ flat_map (word) (take l.n-index l.words)
