use Rattle.std.proofs.Common.{nat_le, rules}
use Rattle.std.proofs.lemmas.List.Sorted.{IsPartitionPoint-from_clause}
use Rattle.addr_map.proofs.Holding.{begun_first, begun_by}
use Rattle.addr_map.proofs.moving.begun.Goals as goal

pub returns-clause-begun : goal.returns-clause-begun
returns-clause-begun c = begun_by c.args.ranges.now c.args.at c.partition_point.result
    (IsPartitionPoint-from_clause (λ r. nat_le r.start c.args.at) c.args.ranges.now c.partition_point.result c.partition_point.ensures.partitioned
    (begun_first c.args.ranges.now c.args.at c.requires.sound c.requires.apart) (λ a r f q. search rules))
