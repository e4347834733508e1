use Rattle.layout.proofs.DraftRuns.{Drafted}
use Rattle.layout.proofs.drafting.draft_units.Given as goal

abbrev pub invariant-loop-u : goal.invariant-loop-u
invariant-loop-u g l = Drafted l.graph l.u l.drafts
