use Rattle.odr_names.specs.Numbered.{objects_of}
use Rattle.odr_names.specs.Joining.{AreNamesTo}
use Rattle.odr_names.proofs.path_book.all_names.Given as goal

abbrev pub invariant-loop-i : goal.invariant-loop-i
invariant-loop-i l = AreNamesTo (objects_of l.seen l.live) l.own.items l.i
