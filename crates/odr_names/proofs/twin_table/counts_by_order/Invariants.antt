use Rattle.odr_names.specs.TwinTable.{IsTold}
use Rattle.odr_names.specs.Twins.{AreCounted}
use Rattle.type_names.specs.Objects.{object_of}
use Rattle.odr_names.proofs.twin_table.counts_by_order.Given as goal

abbrev pub invariant-loop-i : goal.invariant-loop-i
invariant-loop-i l = record {
  counted : AreCounted l.object (object_of l.seen l.live) l.ranks l.counts.items l.i;
  told : IsTold l.object (object_of l.seen l.live) l.ranks l.table l.i;
}
