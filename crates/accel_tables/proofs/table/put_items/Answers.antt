use Rattle.std.proofs.Common.{refl, arith}
use Rattle.std.proofs.lemmas.List.{drop_all}
use Rattle.std.specs.List.{flat_map}
use Rattle.accel_tables.specs.declared.rows.Row.{Row}
use Rattle.accel_tables.specs.Table.{groups, item_bytes}
use Rattle.accel_tables.proofs.Lists.{more_of, none_left}
use Rattle.accel_tables.proofs.table.put_items.Goals as goal

pub loop-i-preserved : goal.loop-i-preserved
loop-i-preserved c = record {
  within = omega (arith, c.text_run-item.ensures.within);
  all = more_of item_bytes c.loop-i.bytes _ c.text_run-item.result.now _ _ _ c.text_run-item.ensures.group c.in_ok-put_item.ensures c.loop-i.invariant.all;
}

pub returns : goal.returns
returns c = none_left (λ gs. flat_map item_bytes (groups (λ (r : Row). r.text) gs)) _ c.loop-i.bytes _ refl (drop_all c.loop-i.i c.args.rows.now (omega (arith, c.loop-i-test.false))) c.loop-i.invariant.all
