use Rattle.type_names.specs.Objects.{object_of}
use Rattle.type_names.specs.Pooled.{IsToldTo}
use Rattle.type_names.proofs.pooled.tell_all.Given as goal

abbrev pub invariant-loop-i : goal.invariant-loop-i
invariant-loop-i l = IsToldTo (object_of l.seen l.live) l.heads l.in_heads l.spelled l.i
