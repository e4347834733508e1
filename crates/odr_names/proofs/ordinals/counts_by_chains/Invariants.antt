use Rattle.odr_names.specs.Twins.{AreChained, AreCounted}
use Rattle.type_names.specs.Objects.{object_of}
use Rattle.odr_names.proofs.ordinals.counts_by_chains.Given as goal

abbrev pub invariant-loop-i : goal.invariant-loop-i
invariant-loop-i l = record {
  counted : AreCounted l.object (object_of l.seen l.live) l.ranks l.counts.items l.i;
  chained : AreChained l.ranks l.chains l.i;
}
