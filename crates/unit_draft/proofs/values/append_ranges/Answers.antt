use Rattle.unit_draft.proofs.Valuing.{ranges_appended}
use Rattle.unit_draft.proofs.values.append_ranges.Goals as goal

pub returns : goal.returns
returns c =
    ranges_appended c.args.number c.args.version c.args.drafting.now c.leave.new.self c.append_range_list.new.out c.args.spans.now c.len-offset.result c.in_ok-append_range_list.ensures c.len-offset.ensures c.in_ok-leave.ensures.ok
