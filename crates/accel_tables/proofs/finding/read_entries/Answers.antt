use Rattle.std.proofs.Common.{◌≡◌, ◌+◌, ◌-◌, ◌∙◌, suc, sym, arith}
use Rattle.std.proofs.lemmas.Result.{err_from_is_err_and}
use Rattle.accel_tables.proofs.Walking.{entries_end, entry_fault, entry_more}
use Rattle.accel_tables.proofs.finding.read_entries.Goals as goal

pub returns-in_err-entry : goal.returns-in_err-entry
returns-in_err-entry c =
    let p = err_from_is_err_and c.from_residual.result c.from_residual.ensures.1 in
    let left : c.args.count - c.loop.counter ≡ suc (c.args.count - (c.loop.counter + 1)) = omega (arith, c.loop-test.true) in
    rw (p.1, p.2) (sym c.loop.invariant ∙ entry_fault c.args.table.now c.args.wanted _ _ c.loop.entries c.loop.at c.in_err-entry.field-0.0 left c.in_err-entry.ensures.read)

pub loop-preserved : goal.loop-preserved
loop-preserved c =
    let left : c.args.count - c.loop.counter ≡ suc (c.args.count - (c.loop.counter + 1)) = omega (arith, c.loop-test.true) in
    rw c.in_ok-put_entry.ensures (sym (entry_more c.args.table.now c.args.wanted _ _ c.loop.entries c.loop.at c.in_ok-entry.entry left c.in_ok-entry.ensures.read) ∙ c.loop.invariant)

pub returns : goal.returns
returns c = sym c.loop.invariant ∙ entries_end c.args.table.now c.args.wanted _ c.loop.entries c.loop.at (omega (arith, c.loop-test.false))
