use Rattle.std.proofs.Common.{◌++◌, ◌∙◌, ℕ, List, ap, sym}
use Rattle.ds_base.specs.Leb.{uleb}
use Rattle.ds_base.proofs.LebLengths.{length-uleb}
use Rattle.patches.specs.Filling.{filled}
use Rattle.patches.proofs.Lowest.{take_front}
use Rattle.patches.proofs.buffer.Buffer.append_prefixed.Goals as goal

pub returns-clause-ok : goal.returns-clause-ok
returns-clause-ok c = λ f.
    let more = filled c.args.other.now f in
    let front = take_front _ _ _ _ c.put_uleb.ensures (length-uleb c.len-len.result ∙ sym c.uleb_len.ensures.is) in
    c.in_ok-append_behind.ensures.ok f
    ∙ ap (λ (xs : List ℕ). filled c.args.self.now f ++ (xs ++ more)) (front ∙ ap uleb (sym (c.len-len.ensures f)))
