use Rattle.std.proofs.Common.{◌≢◌, ◌∙◌, rules, slice_index}
use Rattle.link_cli.proofs.Numbers.{none_read, number_read}
use Rattle.link_cli.proofs.plan.number_up_to.Goals as goal

pub returns-in-Ok-clause-number : goal.returns-in-Ok-clause-number
returns-in-Ok-clause-number c =
    let sign : slice_index c.args.text.now 0 ≢ 0x2b = search rules in
    let zero_first : slice_index c.args.text.now 0 ≢ 0x30 = search rules in
    c.up_to.ensures.number ∙ number_read c.args.most c.args.text.now c.in-Ok.number sign zero_first c.in-Ok.ensures.value.0

pub returns-in-Err-clause-number : goal.returns-in-Err-clause-number
returns-in-Err-clause-number c =
    let sign : slice_index c.args.text.now 0 ≢ 0x2b = search rules in
    let zero_first : slice_index c.args.text.now 0 ≢ 0x30 = search rules in
    none_read c.args.most c.args.text.now c.ranges.most.fits sign zero_first c.in-Err.ensures.value.0
