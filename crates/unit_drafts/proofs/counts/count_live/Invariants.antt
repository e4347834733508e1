use Rattle.std.proofs.Common.{◌≡◌, length, take}
use Rattle.std.specs.List.{filter, sum_by}
use Rattle.unit_drafts.proofs.counts.count_live.Given as goal

abbrev pub invariant-loop-i : goal.invariant-loop-i
invariant-loop-i l = l.n ≡ sum_by (λ row. length (filter (λ b. b) row)) (take l.i l.marks)
