use Rattle.patches.proofs.Fills.{filled-append}
use Rattle.patches.proofs.buffer.Buffer.extend.Goals as goal

pub returns-clause-ok : goal.returns-clause-ok
returns-clause-ok c = λ f. rw (c.in_ok-extend_from_slice.ensures.items, ← c.self.view_is) (filled-append _ _ _ c.self.invariant c.args.bytes.now f)
