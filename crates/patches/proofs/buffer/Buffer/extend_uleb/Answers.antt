use Rattle.std.proofs.Common.{◌++◌, ◌∙◌, ap, sym}
use Rattle.ds_base.proofs.LebLengths.{length-uleb}
use Rattle.patches.specs.Filling.{filled}
use Rattle.patches.proofs.Lowest.{take_front}
use Rattle.patches.proofs.buffer.Buffer.extend_uleb.Goals as goal

pub returns-clause-ok : goal.returns-clause-ok
returns-clause-ok c = λ f. c.in_ok-extend.ensures.ok f ∙ ap (λ bs. filled c.args.self.now f ++ bs) (take_front _ _ _ _ c.put_uleb.ensures (length-uleb c.args.n ∙ sym c.uleb_len.ensures.is))
