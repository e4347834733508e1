use Rattle.std.proofs.Common.{◌≡◌, length, take}
use Rattle.std.specs.List.{sum_by}
use Rattle.unit_drafts.proofs.counts.count_nodes.Given as goal

abbrev pub invariant-loop-draft : goal.invariant-loop-draft
invariant-loop-draft l = l.n ≡ sum_by (λ draft. length draft.places) (take l.draft-index l.drafts)
