use Rattle.std.proofs.Common.{◌∙◌, sym}
use Rattle.patches.proofs.Fills.{length-filled}
use Rattle.patches.proofs.buffer.Buffer.len.Goals as goal

pub returns : goal.returns
returns c = λ f. rw (← c.self.view_is) (length-filled _ _ _ c.self.invariant f ∙ sym (c.len.ensures ∙ c.self.inside.bytes.ok.0))
