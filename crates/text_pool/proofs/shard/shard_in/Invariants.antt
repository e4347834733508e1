use Rattle.std.proofs.Common.{take}
use Rattle.text_pool.specs.Shards.{Holds, in_shard, texts_in}
use Rattle.text_pool.proofs.shard.shard_in.Given as goal

-- those of the parts so far are put
abbrev pub invariant-loop-names : goal.invariant-loop-names
invariant-loop-names l = Holds (in_shard l.shards l.shard (texts_in (take l.names-index l.parts))) l.table
