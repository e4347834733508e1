use Rattle.std.proofs.Common.{◌≡◌, map, take}
use Rattle.clone_units.specs.Noted.{marks_of_object}
use Rattle.clone_units.proofs.noted_uses.no_marks.Given as goal

abbrev pub invariant-loop-object : goal.invariant-loop-object
invariant-loop-object l = l.marks ≡ map marks_of_object (take l.object-index l.seen)
