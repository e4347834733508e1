use Rattle.std.proofs.Common.{ltb, rules}
use Rattle.std.proofs.lemmas.List.Sorted.{IsPartitionPoint-from_clause, IsPartitionedBy-ltb}
use Rattle.clone_units.proofs.ranges.count_below.Goals as goal

pub returns-clause-parted : goal.returns-clause-parted
returns-clause-parted c =
    IsPartitionPoint-from_clause (λ piece. ltb piece.entry c.args.number) c.args.code.now c.partition_point.result c.partition_point.ensures.partitioned
    (IsPartitionedBy-ltb (λ piece. piece.entry) c.args.code.now c.args.number c.requires) (λ a r f q. search rules)
