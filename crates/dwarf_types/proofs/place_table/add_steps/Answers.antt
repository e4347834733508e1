use Rattle.std.proofs.Common.{arith, suc, ◌∙◌}
use Rattle.std.proofs.lemmas.List.{length_push}
use Rattle.dwarf_types.proofs.Placing.{one_step_more}
use Rattle.dwarf_types.proofs.place_table.add_steps.Goals as goal

pub loop-step-preserved : goal.loop-step-preserved
loop-step-preserved c =
    let so_far = c.loop-step.invariant.0 in
    let le = c.loop-step.invariant.1 in
    ((suc so_far.0, c.in_ok-push.ensures.items ∙ one_step_more c.args.before.now.items c.loop-step.before.items so_far.0 c.args.count so_far.1), rw c.in_ok-push.ensures.items (omega (arith, length_push c.loop-step.before.items c.args.count)))
