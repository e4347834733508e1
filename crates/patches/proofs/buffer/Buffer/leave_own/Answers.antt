use Rattle.std.proofs.Common.{◌∙◌}
use Rattle.patches.proofs.Fills.{filled-own}
use Rattle.patches.proofs.buffer.Buffer.leave_own.Goals as goal

pub returns-clause-ok : goal.returns-clause-ok
returns-clause-ok c = λ f. rw (c.push_reserved.ensures.items, c.reserve.ensures.items, c.in_ok-extend_from_slice.ensures.items, ← c.self.view_is) (filled-own _ _ _ c.self.invariant c.len-at.result c.args.hole f (c.len-at.ensures ∙ c.self.inside.bytes.ok.0))
