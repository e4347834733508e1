use Rattle.std.proofs.Common.{nat_le, rules}
use Rattle.std.proofs.lemmas.List.Sorted.{IsPartitionPoint-from_clause}
use Rattle.addr_map.proofs.Holding.{ended_out, ends_first}
use Rattle.addr_map.proofs.moving.ended.Goals as goal

pub returns-clause-others : goal.returns-clause-others
returns-clause-others c high =
    let point = IsPartitionPoint-from_clause (λ r. nat_le r.end c.args.low) c.args.ranges.now c.partition_point.result c.partition_point.ensures.partitioned
    (ends_first c.args.ranges.now c.args.low c.requires.sound c.requires.apart) (λ a r f q. search rules) in
    ended_out c.args.ranges.now c.args.low high c.partition_point.result point.0
