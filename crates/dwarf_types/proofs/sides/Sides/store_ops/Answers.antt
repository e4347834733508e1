use Rattle.std.proofs.Common.{◌≡◌, ◌<◌, length, arith, refl, take, ◌∙◌}
use Rattle.std.proofs.lemmas.List.{take_all, take_more}
use Rattle.dwarf_types.specs.Cells.{op_of, OpWithin}
use Rattle.dwarf_types.specs.Seen.{op_seen}
use Rattle.dwarf_types.proofs.Growing.{op_column, as_many, as_many_on, grows_on, rows_more, rows_none, rows_run}
use Rattle.dwarf_types.proofs.Kept.{ops_kept, ops_within}
use Rattle.dwarf_types.proofs.sides.Sides.store_ops.Goals as goal

pub loop-k-init : goal.loop-k-init
loop-k-init c = (as_many c.args.self.now, (rows_none op_column op_of OpWithin c.args.self.now, refl))

pub returns-in_err-store_op-clause-grows : goal.returns-in_err-store_op-clause-grows
returns-in_err-store_op-clause-grows c = grows_on _ _ _ c.loop-k.invariant.1.0.grows c.store_op.ensures.grows

pub returns-in_err-store_op-clause-others : goal.returns-in_err-store_op-clause-others
returns-in_err-store_op-clause-others c = c.store_op.ensures.others ∙ c.loop-k.invariant.1.1

pub loop-k-preserved : goal.loop-k-preserved
loop-k-preserved c =
    let lt : c.loop-k.k < length c.args.ops.now = omega arith in
    let row = c.in_ok-store_op.ensures.row in
    let more = rows_more op_column op_of OpWithin ops_kept ops_within c.args.self.now c.loop-k.self c.store_op.new.self (take c.loop-k.k c.args.ops.now) (op_seen c.op.result) row.0 c.loop-k.invariant.1.0 c.store_op.ensures.grows row.1 row.2 row.3 in
    (as_many_on c.args.self.now c.loop-k.self c.store_op.new.self c.loop-k.invariant.0 c.store_op.ensures.few, (rw (take_more c.args.ops.now c.loop-k.k (op_seen c.op.result) lt, ← c.op.ensures) more, c.store_op.ensures.others ∙ c.loop-k.invariant.1.1))

pub returns-clause-rows : goal.returns-clause-rows
returns-clause-rows c =
    let from : c.len-from.result ≡ length c.args.self.now.ops = omega arith in
    let to : c.len-to.result ≡ length c.loop-k.self.ops = omega arith in
    let whole : take c.loop-k.k c.args.ops.now ≡ c.args.ops.now = take_all c.loop-k.k c.args.ops.now (omega arith) in
    let all = rows_run op_column op_of OpWithin c.args.self.now c.loop-k.self (take c.loop-k.k c.args.ops.now) (record { from = c.len-from.result; to = c.len-to.result }) c.loop-k.invariant.1.0 from to in
    (all.0, all.1 ∙ whole, all.2)

pub returns-in_err-store_op-clause-few : goal.returns-in_err-store_op-clause-few
returns-in_err-store_op-clause-few c = as_many_on c.args.self.now c.loop-k.self c.store_op.new.self c.loop-k.invariant.0 c.store_op.ensures.few

pub returns-clause-few : goal.returns-clause-few
returns-clause-few c = c.loop-k.invariant.0
