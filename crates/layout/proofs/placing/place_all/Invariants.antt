use Rattle.std.proofs.Common.{◌≡◌, drop, fold}
use Rattle.layout.specs.Pass.{behind_draft, no_starts, none_placed, with_draft}
use Rattle.layout.proofs.placing.place_all.Given as goal

abbrev pub invariant-loop-draft : goal.invariant-loop-draft
invariant-loop-draft l = record {
  ends : fold behind_draft l.placing.at (drop l.draft-index l.drafts) ≡ fold behind_draft no_starts l.drafts;
  rest : fold with_draft l.placing (drop l.draft-index l.drafts) ≡ fold with_draft none_placed l.drafts;
}
