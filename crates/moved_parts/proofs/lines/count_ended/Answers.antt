use Rattle.std.proofs.Common.{nat_le, rules}
use Rattle.std.proofs.lemmas.List.Sorted.{IsPartitionPoint-from_clause}
use Rattle.addr_map.proofs.Holding.{ends_first}
use Rattle.moved_parts.proofs.Held.{ended_by}
use Rattle.moved_parts.proofs.lines.count_ended.Goals as goal

pub returns : goal.returns
returns c = ended_by c.args.ranges.now c.args.address c.partition_point.result
    (IsPartitionPoint-from_clause (λ r. nat_le r.end c.args.address) c.args.ranges.now c.partition_point.result c.partition_point.ensures.partitioned
    (ends_first c.args.ranges.now c.args.address c.requires.sound c.requires.apart) (λ a r f q. search rules))
