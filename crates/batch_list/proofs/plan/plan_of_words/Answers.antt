use Rattle.std.proofs.Common.{ap, map, subst, sym, ◌∙◌}
use Rattle.std.specs.String.{string_bytes}
use Rattle.clap.specs.Words.{App, HasKind, fault_of, is_simple, is_simple_and_free, kind_of, matches_of}
use Rattle.batch_list.specs.Plan.{command}
use Rattle.batch_list.specs.Plans.{refusal}
use Rattle.batch_list.proofs.Plans.{accepted, command_free, command_simple, refused}
use Rattle.batch_list.proofs.plan.plan_of_words.Goals as goal

pub returns-in-Ok-try_get_matches_from-clause-plan : goal.returns-in-Ok-try_get_matches_from-clause-plan
returns-in-Ok-try_get_matches_from-clause-plan c =
    let words = map string_bytes c.args.words.now in
    let app = c.in-Ok.ensures in
    let parse = c.in-Ok-try_get_matches_from.ensures in
    accepted (fault_of command words) (matches_of command words) _ c.plan_in.result
    (sym (ap (λ (a : App). fault_of a words) app) ∙ parse.kinds (ap is_simple_and_free app ∙ command_free))
    ((parse.matches (ap is_simple app ∙ command_simple)).0 ∙ ap (λ (a : App). matches_of a words) app) c.plan_in.ensures.plan

pub returns-in-Err-clause-plan : goal.returns-in-Err-clause-plan
returns-in-Err-clause-plan c =
    let words = map string_bytes c.args.words.now in
    let app = c.in-Ok.ensures in
    let failed = c.in-Err.ensures.kinds (ap is_simple_and_free app ∙ command_free) in
    refused (kind_of c.in-Err.error) c.refusal.result (fault_of command words) (matches_of command words) (c.refusal.ensures ∙ ap refusal c.kind.ensures)
    (subst (λ (a : App). HasKind (fault_of a words) c.in-Err.error) app failed)
