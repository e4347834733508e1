use Rattle.std.proofs.Common.{rules, nat_lt}
use Rattle.std.proofs.lemmas.List.Sorted.{IsPartitionPoint-from_clause}
use Rattle.macho_read.proofs.ends.count_before.Goals as goal

pub returns-clause-before : goal.returns-clause-before
returns-clause-before c =
    IsPartitionPoint-from_clause (λ z. nat_lt z c.args.place) c.args.zeros.now c.partition_point.result c.partition_point.ensures.partitioned c.requires (λ a r f q. search rules)
