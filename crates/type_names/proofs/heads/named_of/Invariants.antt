use Rattle.type_names.specs.HeadRows.{AreNamedTo}
use Rattle.type_names.specs.Objects.{object_of}
use Rattle.type_names.proofs.heads.named_of.Given as goal

abbrev pub invariant-loop-i : goal.invariant-loop-i
invariant-loop-i l = AreNamedTo (object_of l.seen l.live) l.named l.in_named l.common l.i
