use Rattle.std.proofs.Common.{◌≡◌, List, map, rules, ap, refl, ◌∙◌}
use Rattle.ds_base.specs.InOrder.{in_order}
use Rattle.ds_base.proofs.Backwards.{done_all, done_more}
use Rattle.accel_tables.specs.declared.rows.Row.{Row}
use Rattle.accel_tables.specs.Table.{rank}
use Rattle.accel_tables.proofs.Order.{itself, put_more, values}
use Rattle.accel_tables.proofs.rows.rows_in_order.Goals as goal

pub loop-row-preserved : goal.loop-row-preserved
loop-row-preserved c = done_more _ _ _ _ _ _ c.in-Some.ensures.steps
    (λ done so_far. c.in_ok-insert.ensures.entries ∙ put_more (rank c.args.buckets) (λ (r : Row). r) c.loop-row.by_rank.entries _ _ c.in-Some.row.now done c.rank_of.ensures refl so_far) c.loop-row.invariant

pub returns : goal.returns
returns c =
    let collected : c.in_ok-collect.field-0.items ≡ map (λ e. e.1) c.loop-row.by_rank.entries = search rules in
    collected ∙ ap (map (λ e. e.1)) (done_all _ _ _ c.in-None.ensures.steps.0 c.loop-row.invariant) ∙ values (rank c.args.buckets) _
    ∙ ap (λ (rs : List Row). in_order (rank c.args.buckets) rs) (itself c.args.rows.now)
