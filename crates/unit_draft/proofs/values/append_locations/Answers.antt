use Rattle.unit_draft.proofs.Valuing.{locations_appended}
use Rattle.unit_draft.proofs.values.append_locations.Goals as goal

pub returns : goal.returns
returns c =
    locations_appended c.args.number c.args.version c.args.drafting.now c.leave.new.self c.append_location_list.new.out c.append_location_list.new.scratch c.args.items.now c.len-offset.result
    c.in_ok-append_location_list.ensures c.len-offset.ensures c.in_ok-leave.ensures.ok
