use Rattle.std.proofs.Common.{◌≡◌, ◌+◌, ◌*◌, ◌^◌, ◌≤◌, drop, fold, length}
use Rattle.layout.specs.Pass.{AreBelow, behind_draft, no_starts}
use Rattle.layout.proofs.starts.ends_of.Given as goal

abbrev pub invariant-loop-draft : goal.invariant-loop-draft
invariant-loop-draft l = record {
  below : AreBelow (13 + l.draft-index * 2 ^ 64) l.ends;
  rest : fold behind_draft l.ends (drop l.draft-index l.drafts) ≡ fold behind_draft no_starts l.drafts;
  within : l.draft-index ≤ length l.drafts;
}
