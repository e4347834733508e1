use Rattle.std.proofs.Common.{◌≡◌, ◌++◌, ◌∙◌, ap, sym, to_z-of_z}
use Rattle.ds_base.specs.Leb.{sleb_len_of}
use Rattle.ds_base.proofs.LebLengths.{length-sleb}
use Rattle.patches.specs.Filling.{filled}
use Rattle.patches.proofs.Lowest.{take_front}
use Rattle.patches.proofs.buffer.Buffer.extend_sleb.Goals as goal

pub returns-clause-ok : goal.returns-clause-ok
returns-clause-ok c = λ f.
    let len : c.sleb_len.result ≡ sleb_len_of c.args.n = simp (to_z-of_z, c.ranges.n) at c.sleb_len.ensures.is in
    let written = simp (to_z-of_z, c.ranges.n) at c.put_sleb.ensures in
    c.in_ok-extend.ensures.ok f ∙ ap (λ bs. filled c.args.self.now f ++ bs) (take_front _ _ _ _ written (length-sleb c.args.n ∙ sym len))
