use Rattle.std.proofs.Common.{◌≡◌, ℕ, take}
use Rattle.std.specs.List.{sum_by}
use Rattle.sample_objects.proofs.lines.total.Given as goal

abbrev pub invariant-loop-size : goal.invariant-loop-size
invariant-loop-size l = l.total ≡ sum_by (λ (n : ℕ). n) (take l.size-index l.sizes)
