use Rattle.std.proofs.Common.{rules}
use Rattle.dwarf_types.specs.Runs.{InTexts, text_of}
use Rattle.dwarf_types.proofs.LineRows.{means_kept, means_put, texts_keep, within_put}
use Rattle.dwarf_types.proofs.paths.Paths.push_at.Goals as goal

pub returns-in_err-push-clause-unchanged : goal.returns-in_err-push-clause-unchanged
returns-in_err-push-clause-unchanged c =
    let shared = c.self.inside.texts in
    let kept = means_kept (text_of shared) (InTexts shared) (texts_keep shared) _ _ c.keep_text.ensures.grows _ c.self.invariant in
    search rules

pub invariant_of-self-2 : goal.invariant_of-self-2
invariant_of-self-2 c =
    let shared = c.self.inside.texts in
    let there = rw c.as_slice.ensures at c.in_ok-run.ensures.within in
    rw c.in_ok-push.ensures.items (within_put (text_of shared) (InTexts shared) (texts_keep shared) _ _ c.keep_text.ensures.grows _ c.self.invariant c.in_ok-run.run' there)

pub returns-clause-ok : goal.returns-clause-ok
returns-clause-ok c =
    let shared = c.self.inside.texts in
    let is = rw c.as_slice.ensures at c.in_ok-run.ensures.is in
    rw (c.in_ok-push.ensures.items, ← c.self.view_is) (means_put (text_of shared) (InTexts shared) (texts_keep shared) _ _ c.keep_text.ensures.grows _ c.self.invariant c.in_ok-run.run' c.args.path.now is)
