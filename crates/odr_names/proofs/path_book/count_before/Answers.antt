use Rattle.std.proofs.Common.{ltb, ltb-true, ltb-false, rules}
use Rattle.std.proofs.lemmas.List.Sorted.{IsPartitionPoint-from_clause, IsPartitionedBy-ltb}
use Rattle.odr_names.proofs.path_book.count_before.Goals as goal

pub returns-clause-parted : goal.returns-clause-parted
returns-clause-parted c =
    let parted = IsPartitionPoint-from_clause (λ d. ltb d.object c.args.object) c.args.rows.now c.partition_point.result c.partition_point.ensures.partitioned
    (IsPartitionedBy-ltb (λ d. d.object) c.args.rows.now c.args.object c.requires) (λ a r f q. search rules) in
    ((λ k d low high. ltb-true _ _ (parted.0 k d low high)), (λ k d low high. ltb-false _ _ (parted.1 k d low high)))
