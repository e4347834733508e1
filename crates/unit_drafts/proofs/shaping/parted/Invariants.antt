use Rattle.std.proofs.Common.{◌≡◌, ◌++◌}
use Rattle.unit_drafts.proofs.ShapesMade.{as_made}
use Rattle.unit_drafts.proofs.shaping.parted.Given as goal

-- those behind the first one are, so far, what objects gave
abbrev pub invariant-loop-out : goal.invariant-loop-out
invariant-loop-out l = (l.yielded ++ l.out-iterator.rest.items ≡ l.initial.out-iterator.rest.items) × (as_made l.own.items ≡ l.yielded)
