use Rattle.odr_names.specs.Twins.{AreSiblings}
use Rattle.type_names.specs.Objects.{object_of}
use Rattle.odr_names.proofs.ordinals.siblings_of.Given as goal

abbrev pub invariant-loop-i : goal.invariant-loop-i
invariant-loop-i l = AreSiblings l.object (object_of l.seen l.live) l.ranks.items l.i
