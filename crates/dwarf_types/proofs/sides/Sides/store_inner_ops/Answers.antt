use Rattle.std.proofs.Common.{◌≡◌, ◌<◌, length, map, arith, refl, ap, take, ◌∙◌}
use Rattle.std.proofs.lemmas.List.{take_all, take_more}
use Rattle.dwarf_types.specs.Cells.{inner_of, InnerWithin}
use Rattle.dwarf_types.specs.Seen.{inner_seen}
use Rattle.dwarf_types.proofs.Growing.{inner_column, as_many, as_many_on, grows_on, rows_more, rows_none, rows_run}
use Rattle.dwarf_types.proofs.Kept.{between_same, inners_kept, inners_within}
use Rattle.dwarf_types.proofs.sides.Sides.store_inner_ops.Goals as goal

pub loop-k-init : goal.loop-k-init
loop-k-init c = (as_many c.args.self.now, (rows_none inner_column inner_of InnerWithin c.args.self.now, (refl, refl)))

pub returns-in_err-store_inner-clause-grows : goal.returns-in_err-store_inner-clause-grows
returns-in_err-store_inner-clause-grows c = grows_on _ _ _ c.loop-k.invariant.1.0.grows c.store_inner.ensures.grows

pub returns-in_err-store_inner-clause-others : goal.returns-in_err-store_inner-clause-others
returns-in_err-store_inner-clause-others c = (c.store_inner.ensures.others.0 ∙ c.loop-k.invariant.1.1.0, c.store_inner.ensures.others.1 ∙ c.loop-k.invariant.1.1.1)

pub loop-k-preserved : goal.loop-k-preserved
loop-k-preserved c =
    let lt : c.loop-k.k < length c.args.ops.now = omega arith in
    let row = c.in_ok-store_inner.ensures.row in
    let more = rows_more inner_column inner_of InnerWithin inners_kept inners_within c.args.self.now c.loop-k.self c.store_inner.new.self (take c.loop-k.k c.args.ops.now) (inner_seen c.op.result) row.0 c.loop-k.invariant.1.0 c.store_inner.ensures.grows row.1 row.2 row.3 in
    (as_many_on c.args.self.now c.loop-k.self c.store_inner.new.self c.loop-k.invariant.0 c.store_inner.ensures.few, (rw (take_more c.args.ops.now c.loop-k.k (inner_seen c.op.result) lt, ← c.op.ensures) more, (c.store_inner.ensures.others.0 ∙ c.loop-k.invariant.1.1.0, c.store_inner.ensures.others.1 ∙ c.loop-k.invariant.1.1.1)))

pub returns-clause-rows : goal.returns-clause-rows
returns-clause-rows c =
    let from : c.len-from.result ≡ length c.args.self.now.inner.items = omega arith in
    let to : c.len-to.result ≡ length c.loop-k.self.inner.items = omega arith in
    let whole : take c.loop-k.k c.args.ops.now ≡ c.args.ops.now = take_all c.loop-k.k c.args.ops.now (omega arith) in
    let all = rows_run inner_column inner_of InnerWithin c.args.self.now c.loop-k.self (take c.loop-k.k c.args.ops.now) (record { from = c.len-from.result; to = c.len-to.result }) c.loop-k.invariant.1.0 from to in
    let same = between_same c.loop-k.self.inner.items c.len-from.result c.len-to.result all.0.0 all.0.1 in
    rw c.run_between.ensures (same.1, ap (map (inner_of c.loop-k.self)) same.0 ∙ (all.1 ∙ whole), rw same.0 all.2)

pub returns-in_err-store_inner-clause-few : goal.returns-in_err-store_inner-clause-few
returns-in_err-store_inner-clause-few c = as_many_on c.args.self.now c.loop-k.self c.store_inner.new.self c.loop-k.invariant.0 c.store_inner.ensures.few

pub returns-clause-few : goal.returns-clause-few
returns-clause-few c = c.loop-k.invariant.0
