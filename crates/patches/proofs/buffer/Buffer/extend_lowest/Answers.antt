use Rattle.std.proofs.Common.{◌++◌, ◌∙◌, ap, take}
use Rattle.patches.specs.Filling.{filled}
use Rattle.patches.proofs.Lowest.{take_lowest}
use Rattle.patches.proofs.buffer.Buffer.extend_lowest.Goals as goal

pub returns-clause-ok : goal.returns-clause-ok
returns-clause-ok c = λ f. c.in_ok-extend.ensures.ok f ∙ ap (λ bs. filled c.args.self.now f ++ bs) (ap (take c.args.count) c.to_le_bytes.ensures ∙ take_lowest c.args.count 8 0 c.args.n c.requires.few)
