use Rattle.std.proofs.Common.{◌≡◌, ◌++◌, ◌-◌, replicate}
use Rattle.patches.specs.Filling.{Filling, filled}
use Rattle.unit_draft.proofs.numbers.append_zeros.Given as goal

abbrev pub invariant-loop : goal.invariant-loop
invariant-loop l = (f : Filling) → filled l.out f ++ replicate (l.count - l.counter) 0 ≡ filled l.fn.out f ++ replicate l.count 0
