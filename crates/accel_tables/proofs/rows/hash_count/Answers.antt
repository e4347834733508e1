use Rattle.std.proofs.Common.{length, ap, refl, ◌∙◌}
use Rattle.ds_base.proofs.Backwards.{done_all, done_more}
use Rattle.accel_tables.specs.declared.rows.Row.{Row}
use Rattle.accel_tables.proofs.Order.{as_many, put_more}
use Rattle.accel_tables.proofs.rows.hash_count.Goals as goal

pub loop-row-preserved : goal.loop-row-preserved
loop-row-preserved c = done_more _ _ _ _ _ _ c.in-Some.ensures.steps
    (λ done so_far. c.in_ok-insert.ensures.entries ∙ put_more (λ hash. hash) (λ (r : Row). r.hash) c.loop-row.hashes.entries _ _ c.in-Some.row.now done refl refl so_far) c.loop-row.invariant

pub returns : goal.returns
returns c = c.len.ensures.len ∙ ap length (done_all _ _ _ c.in-None.ensures.steps.0 c.loop-row.invariant) ∙ as_many (λ hash. hash) _
