use Rattle.std.proofs.Common.{rules, arith}
use Rattle.std.proofs.lemmas.Result.{err_from_is_err_and}
use Rattle.abbrev_read.proofs.FieldLoop.{pair_fails, fields_end, field_fails, field_more, last_fails, too_many, last_end}
use Rattle.abbrev_read.proofs.table.read_fields.Goals as goal

pub returns-in_err-name : goal.returns-in_err-name
returns-in_err-name c =
    let p = err_from_is_err_and c.from_residual.result c.from_residual.ensures.1 in
    rw (p.1, p.2) (pair_fails c.loop.counter c.loop.fields _ c.loop.cursor _ _ (omega arith) c.in_err-name.ensures c.loop.invariant)

pub returns-in_default : goal.returns-in_default
returns-in_default c =
    fields_end c.loop.counter c.loop.fields _ c.loop.cursor c.read_pair.new.cursor _ (omega arith) (rw (← c.in_default.is) c.in_ok-name.ensures) c.loop.invariant

pub returns-in_err-field : goal.returns-in_err-field
returns-in_err-field c =
    let p = err_from_is_err_and c.from_residual-in_err-field.result c.from_residual-in_err-field.ensures.1 in
    rw (p.1, p.2) (field_fails c.loop.counter c.loop.fields _ c.loop.cursor c.read_pair.new.cursor (c.in-Some.name, c.in-Some.form) _ _ (omega arith) (rw (← c.in-Some.is) c.in_ok-name.ensures) c.in_err-field.ensures c.loop.invariant)

pub loop-preserved : goal.loop-preserved
loop-preserved c =
    rw c.in_ok-push.ensures.ok (field_more c.loop.counter c.loop.fields _ c.loop.cursor c.read_pair.new.cursor _ (c.in-Some.name, c.in-Some.form) _ _ (omega arith) (rw (← c.in-Some.is) c.in_ok-name.ensures) c.in_ok-field.ensures c.loop.invariant)

pub returns-in_err-read_pair : goal.returns-in_err-read_pair
returns-in_err-read_pair c =
    let p = err_from_is_err_and c.from_residual-in_err-read_pair.result c.from_residual-in_err-read_pair.ensures.1 in
    rw (p.1, p.2) (last_fails c.loop.counter c.loop.fields _ c.loop.cursor _ _ (omega arith) c.in_err-read_pair.ensures c.loop.invariant)

pub returns-then-is_some : goal.returns-then-is_some
returns-then-is_some c =
    rw c.fault.ensures (too_many c.loop.counter c.loop.fields _ c.loop.cursor c.read_pair-2.new.cursor _ _ (omega arith) c.in_ok-read_pair.ensures (search rules) c.loop.invariant)

pub returns : goal.returns
returns c =
    last_end c.loop.counter c.loop.fields _ c.loop.cursor c.read_pair-2.new.cursor _ _ (omega arith) c.in_ok-read_pair.ensures (search rules) c.loop.invariant
