use Rattle.std.proofs.Common.{◌≡◌, length, take}
use Rattle.std.specs.List.{sum_by}
use Rattle.unit_drafts.proofs.counts.count_entries.Given as goal

abbrev pub invariant-loop-object : goal.invariant-loop-object
invariant-loop-object l = l.n ≡ sum_by (λ object. length object.entries) (take l.object-index l.seen)
