use Rattle.std.proofs.Common.{◌≡◌, ◌++◌, drop, map}
use Rattle.layout.specs.Pass.{names_in}
use Rattle.layout.proofs.text.all_names.Given as goal

-- those of the drafts so far, and of those that are left
abbrev pub invariant-loop-draft : goal.invariant-loop-draft
invariant-loop-draft l = map (λ names. names.now) l.all.items ++ map (names_in l.of) (drop l.draft-index l.drafts) ≡ map (names_in l.of) l.drafts
