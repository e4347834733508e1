use Rattle.std.proofs.Common.{rules}
use Rattle.std.proofs.lemmas.List.Sorted.{IsPartitionPoint-from_clause}
use Rattle.std.specs.Ordering.{is_le}
use Rattle.addr_map.specs.Tables.{place_cmp}
use Rattle.addr_map.proofs.Next.{passed_first}
use Rattle.addr_map.proofs.places.count_passed.Goals as goal

pub returns-clause-passed : goal.returns-clause-passed
returns-clause-passed c =
    IsPartitionPoint-from_clause (λ p. is_le (place_cmp p (c.args.section, c.args.start))) c.args.places.now c.partition_point.result c.partition_point.ensures.partitioned
    (passed_first c.args.places.now (c.args.section, c.args.start) c.requires) (λ a r f q. search rules)
