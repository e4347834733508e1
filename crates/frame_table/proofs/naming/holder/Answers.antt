use Rattle.std.proofs.Common.{nat_le, rules}
use Rattle.std.proofs.lemmas.List.Sorted.{IsPartitionPoint-from_clause}
use Rattle.frame_table.proofs.Standing.{ended_first, ended_by}
use Rattle.frame_table.proofs.naming.holder.Goals as goal

pub returns-clause-holder : goal.returns-clause-holder
returns-clause-holder c = ended_by c.args.entries.now c.args.place c.partition_point.result
    (IsPartitionPoint-from_clause (λ e. nat_le e.end c.args.place) c.args.entries.now c.partition_point.result c.partition_point.ensures.partitioned
    (ended_first c.args.entries.now c.args.place c.requires) (λ a r f q. search rules))
