use Rattle.std.proofs.Common.{◌+◌}
use Rattle.std.specs.Option.{option_map_or}
use Rattle.type_names.specs.Tree.{numbers_above}
use Rattle.type_names.proofs.Scopes.{IsWalked}
use Rattle.type_names.proofs.spell.push_scopes.Given as goal

abbrev pub invariant-loop-left : goal.invariant-loop-left
invariant-loop-left l = IsWalked l.entries l.left l.scopes.items (numbers_above l.entries l.k)

abbrev pub decreases-loop-left : goal.decreases-loop-left
decreases-loop-left l = option_map_or (λ a. a + 1) l.left 0
