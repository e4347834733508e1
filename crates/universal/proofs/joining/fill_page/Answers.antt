use Rattle.std.proofs.Common.{ℕ, ◌-◌, ◌++◌, ◌∙◌, List, replicate, ap, arith}
use Rattle.std.proofs.lemmas.List.{take-replicate}
use Rattle.universal.specs.Joined.{page_end}
use Rattle.universal.proofs.joining.fill_page.Goals as goal

pub returns-clause-ok : goal.returns-clause-ok
returns-clause-ok c =
    c.in_ok-extend.ensures.ok
    ∙ ap (λ (zeros : List ℕ). c.args.file.now ++ zeros)
    (take-replicate c.left_of_page.result 0x1000 0 (omega (arith, c.left_of_page.ensures.few)) ∙ ap (λ (n : ℕ). replicate n 0) (c.left_of_page.ensures.is ∙ ap (λ (n : ℕ). page_end n - n) c.len.ensures))
