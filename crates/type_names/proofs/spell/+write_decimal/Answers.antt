use Rattle.std.proofs.Common.{◌+◌, ◌/◌, ◌%◌, ◌∷◌, [], List, ℕ, Some, Err, sym, subst, arith}
use Rattle.std.specs.Fmt.{decimal}
use Rattle.std.proofs.lemmas.Fmt.{decimal_digit}
use Rattle.std.proofs.lemmas.Result.{err_from_is_err_and}
use Rattle.type_names.specs.Onto.{Writes, onto}
use Rattle.type_names.proofs.Decimals.{more_digits}
use Rattle.type_names.proofs.Texts.{joined, stopped}
use Rattle.type_names.proofs.spell.+write_decimal.Goals as goal

pub returns-then-n-lt10 : goal.returns-then-n-lt10
returns-then-n-lt10 t c =
    subst (λ (text : List ℕ). Writes c.write_digit.result c.write_digit.new.out.items (onto c.args.out.now.items (Some text))) (sym (decimal_digit c.args.n c.if-n-lt10.true)) c.write_digit.ensures

pub returns-in_err-write_decimal : goal.returns-in_err-write_decimal
returns-in_err-write_decimal t c =
    let p = err_from_is_err_and c.from_residual.result c.from_residual.ensures.1 in
    let e = c.in_err-write_decimal.field-0.0 in
    let new = c.write_decimal.new.out.items in
    rw (p.1, p.2) (subst (λ (text : List ℕ). Writes {A = Unit {0}} (Err e) new (onto c.args.out.now.items (Some text))) (sym (more_digits c.args.n (omega arith) (omega (arith, c.ranges.n.fits))))
    (stopped c.args.out.now.items new new (Some (decimal (c.args.n / 10))) (Some ((48 + c.args.n % 10) ∷ [])) e c.in_err-write_decimal.ensures))

pub returns : goal.returns
returns t c =
    subst (λ (text : List ℕ). Writes c.write_digit-2.result c.write_digit-2.new.out.items (onto c.args.out.now.items (Some text))) (sym (more_digits c.args.n (omega arith) (omega (arith, c.ranges.n.fits))))
    (joined c.args.out.now.items c.write_decimal.new.out.items c.write_digit-2.new.out.items (Some (decimal (c.args.n / 10))) (Some ((48 + c.args.n % 10) ∷ [])) c.write_digit-2.result c.in_ok-write_decimal.ensures c.write_digit-2.ensures)
