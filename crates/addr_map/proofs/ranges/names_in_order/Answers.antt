use Rattle.std.proofs.Common.{◌≡◌, map, rules, ap, ◌∙◌}
use Rattle.addr_map.specs.Ranges.{name_part}
use Rattle.ds_base.proofs.Backwards.{done_all, done_more}
use Rattle.addr_map.proofs.Order.{put_more, values}
use Rattle.addr_map.proofs.ranges.names_in_order.Goals as goal

pub loop-item-preserved-in_ok-insert : goal.loop-item-preserved-in_ok-insert
loop-item-preserved-in_ok-insert c = done_more _ _ _ _ _ _ c.in-Some.ensures.steps
    (λ done so_far. c.in_ok-insert.ensures.entries ∙ put_more (λ x. x.symbol) name_part c.loop-item.by_symbol.entries c.in-Some.item.now done c.in-Name.name (ap name_part c.in-Name.is) so_far) c.loop-item.invariant

pub returns : goal.returns
returns c =
    let collected : c.in_ok-collect.field-0.items ≡ map (λ e. e.1) c.loop-item.by_symbol.entries = search rules in
    collected ∙ ap (map (λ e. e.1)) (done_all _ _ _ c.in-None.ensures.steps.0 c.loop-item.invariant) ∙ values (λ x. x.symbol) _
