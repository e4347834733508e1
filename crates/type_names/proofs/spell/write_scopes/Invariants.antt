use Rattle.std.proofs.Common.{length}
use Rattle.type_names.specs.Onto.{onto}
use Rattle.type_names.specs.Tree.{numbers_above}
use Rattle.type_names.proofs.Scopes.{IsPopped, scopes_of}
use Rattle.type_names.proofs.spell.write_scopes.Given as goal

abbrev pub invariant-loop-a : goal.invariant-loop-a
invariant-loop-a l = IsPopped l.entries l.scopes.items l.out.items (onto l.fn.out.items (scopes_of l.entries (numbers_above l.entries l.k)))

abbrev pub decreases-loop-a : goal.decreases-loop-a
decreases-loop-a l = length l.scopes.items
