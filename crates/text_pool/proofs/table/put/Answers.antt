use Rattle.std.proofs.Common.{◌≡◌, Err, ap, arith, refl}
use Rattle.std.proofs.lemmas.Result.{err_from_is_err_and}
use Rattle.text_pool.specs.declared.error.TextError.TheVariants as errors
use Rattle.ds_base.specs.declared.text_key.TextKey.{TextKey}
use Rattle.text_pool.proofs.Numbers.{holds_more, long_with, number_small}
use Rattle.text_pool.proofs.table.put.Goals as goal

pub returns-in_err-size-clause-long : goal.returns-in_err-size-clause-long
returns-in_err-size-clause-long c = λ uses holds failed.
    let key : TextKey = record { text = c.args.text } in
    let p = err_from_is_err_and c.from_residual-in_err-size.result c.from_residual-in_err-size.ensures.1 in
    let told = rw (p.1, p.2) at failed in
    let same : c.in_err-size.field-0.0 ≡ errors.Long = cc in
    long_with uses c.args.table.now key holds c.in_ok-number.is_new c.args.table.now.size c.in_ok-number.ensures.added (c.in_err-size.ensures.long (ap (λ e. Err e) same))

pub overflow_cast-number : goal.overflow_cast-number
overflow_cast-number c =
    let key : TextKey = record { text = c.args.text } in
    omega (arith, number_small c.requires.0 c.args.table.now key c.requires.1 c.in_ok-number.number c.in_ok-number.ensures.index)

pub returns-clause-ok : goal.returns-clause-ok
returns-clause-ok c = λ uses holds.
    let key : TextKey = record { text = c.args.text } in
    holds_more uses c.args.table.now key holds c.in_ok-number.is_new c.in_ok-size.size c.in_ok-number.ensures.added _ c.in_ok-number.number c.in_ok-number.ensures.keys c.in_ok-number.ensures.index c.in_ok-push.ensures.items
    refl c.in_ok-size.ensures.ok (c.in_ok-size.ensures.small holds.small)
