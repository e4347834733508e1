use Rattle.std.proofs.Common.{◌≡◌, ◌+◌, ◌-◌, ◌∙◌, length, suc, sym, arith}
use Rattle.std.proofs.lemmas.Result.{err_from_is_err_and}
use Rattle.std.proofs.lemmas.Bool.{eq-eqb, ne_eqb}
use Rattle.accel_tables.proofs.Walking.{item_more, list_end, list_fault, list_zero}
use Rattle.accel_tables.proofs.WalkingOn.{item_refused}
use Rattle.accel_tables.proofs.finding.read_list.Goals as goal

pub returns-in_err-text : goal.returns-in_err-text
returns-in_err-text c =
    let s = c.args.search.now in
    let p = err_from_is_err_and c.from_residual.result c.from_residual.ensures.1 in
    let left : length s.table.now - c.loop.counter ≡ suc (length s.table.now - (c.loop.counter + 1)) = omega (arith, c.loop-test.true) in
    rw (p.1, p.2) (sym c.loop.invariant ∙ list_fault s.table.now s.strings.now s.name.now _ _ c.loop.entries c.loop.at c.in_err-text.field-0.0 left c.in_err-text.ensures.read)

pub returns-then-text-eq0 : goal.returns-then-text-eq0
returns-then-text-eq0 c =
    let s = c.args.search.now in
    let left : length s.table.now - c.loop.counter ≡ suc (length s.table.now - (c.loop.counter + 1)) = omega (arith, c.loop-test.true) in
    sym c.loop.invariant ∙ list_zero s.table.now s.strings.now s.name.now _ _ c.loop.entries c.loop.at c.in_ok-text.text left c.in_ok-text.ensures.read (eq-eqb c.in_ok-text.text 0 c.if-text-eq0.true)

pub returns-in_err-at : goal.returns-in_err-at
returns-in_err-at c =
    let s = c.args.search.now in
    let left : length s.table.now - c.loop.counter ≡ suc (length s.table.now - (c.loop.counter + 1)) = omega (arith, c.loop-test.true) in
    let p = err_from_is_err_and c.from_residual-in_err-at.result c.from_residual-in_err-at.ensures.1 in
    rw p.1 (item_refused s.table.now s.strings.now s.name.now _ _ _ c.loop.entries _ c.loop.at c.in_ok-text.text c.in_err-at.field-0.0 _ p.2 left c.in_ok-text.ensures.read (ne_eqb c.in_ok-text.text 0 c.if-text-eq0.false) c.loop.invariant c.in_err-at.ensures)

pub loop-preserved : goal.loop-preserved
loop-preserved c =
    let s = c.args.search.now in
    let left : length s.table.now - c.loop.counter ≡ suc (length s.table.now - (c.loop.counter + 1)) = omega (arith, c.loop-test.true) in
    sym (item_more s.table.now s.strings.now s.name.now _ _ c.loop.entries c.read_item.new.entries c.loop.at c.in_ok-text.text c.in_ok-at.at left c.in_ok-text.ensures.read (ne_eqb c.in_ok-text.text 0 c.if-text-eq0.false) c.in_ok-at.ensures) ∙ c.loop.invariant

pub returns : goal.returns
returns c =
    let s = c.args.search.now in
    sym c.loop.invariant ∙ list_end s.table.now s.strings.now s.name.now _ c.loop.entries c.loop.at (omega (arith, c.loop-test.false))
