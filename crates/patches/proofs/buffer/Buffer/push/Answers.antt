use Rattle.std.proofs.Common.{◌∷◌, []}
use Rattle.patches.proofs.Fills.{filled-append}
use Rattle.patches.proofs.buffer.Buffer.push.Goals as goal

pub returns-clause-ok : goal.returns-clause-ok
returns-clause-ok c = λ f. rw (c.in_ok-push.ensures.items, ← c.self.view_is) (filled-append _ _ _ c.self.invariant (c.args.byte ∷ []) f)
