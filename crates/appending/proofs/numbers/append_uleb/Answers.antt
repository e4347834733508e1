use Rattle.std.proofs.Common.{◌++◌, ◌∙◌, ap, sym, take}
use Rattle.ds_base.proofs.LebLengths.{length-uleb}
use Rattle.appending.proofs.Places.{take_front}
use Rattle.appending.proofs.numbers.append_uleb.Goals as goal

pub returns-clause-ok : goal.returns-clause-ok
returns-clause-ok c = c.in_ok-extend.ensures.ok ∙ ap (λ bytes. c.args.out.now ++ bytes) (take_front _ _ _ _ c.put_uleb.ensures (length-uleb c.args.n ∙ sym c.uleb_len.ensures.is))
