use Rattle.odr_names.specs.Entering.{IsEntering}
use Rattle.type_names.specs.Objects.{object_of}
use Rattle.odr_names.proofs.enter.enter_entries.Given as goal

abbrev pub invariant-loop-i : goal.invariant-loop-i
invariant-loop-i l = IsEntering l.object (object_of l.seen l.live) l.fn.rows.items l.rows.items l.numbers l.i
