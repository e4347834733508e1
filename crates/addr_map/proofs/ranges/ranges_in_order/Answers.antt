use Rattle.std.proofs.Common.{◌≡◌, map, rules, ap, ◌∙◌}
use Rattle.addr_map.specs.Ranges.{range_part}
use Rattle.ds_base.proofs.Backwards.{done_all, done_more}
use Rattle.addr_map.proofs.Order.{put_more, values}
use Rattle.addr_map.proofs.ranges.ranges_in_order.Goals as goal

pub loop-one-preserved-in_ok-insert : goal.loop-one-preserved-in_ok-insert
loop-one-preserved-in_ok-insert c = done_more _ _ _ _ _ _ c.in-Some.ensures.steps
    (λ done so_far. c.in_ok-insert.ensures.entries ∙ put_more (λ x. x.start) range_part c.loop-one.by_start.entries c.in-Some.one.now done c.in-Range.range (ap range_part c.in-Range.is) so_far) c.loop-one.invariant

pub returns : goal.returns
returns c =
    let collected : c.in_ok-collect.field-0.items ≡ map (λ e. e.1) c.loop-one.by_start.entries = search rules in
    collected ∙ ap (map (λ e. e.1)) (done_all _ _ _ c.in-None.ensures.steps.0 c.loop-one.invariant) ∙ values (λ x. x.start) _
