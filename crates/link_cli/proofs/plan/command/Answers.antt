use Rattle.std.proofs.Common.{ap₂, ◌∙◌}
use Rattle.std.proofs.lemmas.Result.{IfOk-weaker}
use Rattle.clap.specs.Words.{with_rule}
use Rattle.link_cli.proofs.plan.command.Goals as goal

pub returns : goal.returns
returns c =
    let one = c.in_ok-arg.ensures.shape c.letter.ensures.local ∙ ap₂ with_rule c.plain_command.ensures c.letter.ensures.rule in
    let two = c.in_ok-arg-2.ensures.shape c.letter-2.ensures.local ∙ ap₂ with_rule one c.letter-2.ensures.rule in
    let three = c.in_ok-arg-3.ensures.shape c.flag.ensures.local ∙ ap₂ with_rule two c.flag.ensures.rule in
    let four = c.in_ok-arg-4.ensures.shape c.flag-2.ensures.local ∙ ap₂ with_rule three c.flag-2.ensures.rule in
    let five = c.in_ok-arg-5.ensures.shape c.flag-3.ensures.local ∙ ap₂ with_rule four c.flag-3.ensures.rule in
    let six = c.in_ok-arg-6.ensures.shape c.flag-4.ensures.local ∙ ap₂ with_rule five c.flag-4.ensures.rule in
    let seven = c.in_ok-arg-7.ensures.shape c.named.ensures.local ∙ ap₂ with_rule six c.named.ensures.rule in
    IfOk-weaker c.arg-8.result _ _ (λ m h. h.shape c.program_word.ensures.local ∙ ap₂ with_rule seven c.program_word.ensures.rule) c.arg-8.ensures
