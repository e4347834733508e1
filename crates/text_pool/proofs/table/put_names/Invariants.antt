use Rattle.std.proofs.Common.{ℕ, List, ◌++◌, take}
use Rattle.text_pool.specs.Shards.{Holds, in_shard}
use Rattle.text_pool.proofs.table.put_names.Given as goal

-- the texts of the shard so far are put
abbrev pub invariant-loop-i : goal.invariant-loop-i
invariant-loop-i l = (uses : List (List ℕ)) → Holds uses l.fn.table → Holds (uses ++ in_shard l.shards l.shard (take l.i l.names)) l.table
