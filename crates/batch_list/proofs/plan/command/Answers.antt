use Rattle.std.proofs.Common.{ap₂, ◌∙◌}
use Rattle.std.proofs.lemmas.Result.{IfOk-weaker}
use Rattle.clap.specs.Words.{with_rule}
use Rattle.batch_list.proofs.plan.command.Goals as goal

pub returns : goal.returns
returns c =
    let one = c.in_ok-arg.ensures.shape c.letter.ensures.local ∙ ap₂ with_rule c.plain_command.ensures c.letter.ensures.rule in
    let two = c.in_ok-arg-2.ensures.shape c.flag.ensures.local ∙ ap₂ with_rule one c.flag.ensures.rule in
    let three = c.in_ok-arg-3.ensures.shape c.flag-2.ensures.local ∙ ap₂ with_rule two c.flag-2.ensures.rule in
    IfOk-weaker c.arg-4.result _ _ (λ m h. h.shape c.list_word.ensures.local ∙ ap₂ with_rule three c.list_word.ensures.rule) c.arg-4.ensures
