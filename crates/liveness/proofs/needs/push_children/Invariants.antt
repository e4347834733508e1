use Rattle.std.proofs.Common.{◌+◌}
use Rattle.std.specs.Option.{option_map_or}
use Rattle.liveness.proofs.ChildChains.{HasWalked}
use Rattle.liveness.proofs.needs.push_children.Given as goal

abbrev pub invariant-loop-next : goal.invariant-loop-next
invariant-loop-next l = HasWalked l.entries l.k l.initial.out.items l.out.items l.next

abbrev pub decreases-loop-next : goal.decreases-loop-next
decreases-loop-next l = option_map_or (λ n. n + 1) l.next 0
