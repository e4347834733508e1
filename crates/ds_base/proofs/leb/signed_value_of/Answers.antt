use Rattle.std.proofs.Common.{◌≡◌, pos, negsuc, true, false, arith, rules}
use Rattle.std.proofs.lemmas.Bool.{ltb-true}
use Rattle.std.proofs.lemmas.Int.{ints}
use Rattle.std.proofs.lemmas.Bool.Decides.{nat_tests}
use Rattle.ds_base.specs.Leb.{digits_value, sleb_value}
use Rattle.ds_base.proofs.LebValues.{sleb_value_above, sleb_value_below}
use Rattle.ds_base.proofs.leb.signed_value_of.Goals as goal

pub returns-in_err-value : goal.returns-in_err-value
returns-in_err-value c =
    let s : sleb_value c.args.bytes.now ≡ pos (digits_value false c.args.bytes.now) = sleb_value_above c.args.bytes.now _ (omega arith) c.if-bytes-lt-SIGN.true in
    rw (s, c.from_residual.ensures) (λ fits. c.in_err-value.ensures (omega (arith, ltb-true _ _ fits)))

pub returns-in_err-below : goal.returns-in_err-below
returns-in_err-below c =
    let s : sleb_value c.args.bytes.now ≡ negsuc (digits_value true c.args.bytes.now) = sleb_value_below c.args.bytes.now _ (omega arith) c.if-bytes-lt-SIGN.false in
    rw (s, c.from_residual-in_err-below.ensures) (λ fits. c.in_err-below.ensures (omega (arith, ltb-true _ _ fits)))

pub returns-in_err-below-2 : goal.returns-in_err-below-2
returns-in_err-below-2 c =
    let s : sleb_value c.args.bytes.now ≡ negsuc (digits_value true c.args.bytes.now) = sleb_value_below c.args.bytes.now _ (omega arith) c.if-bytes-lt-SIGN.false in
    rw s (grind (arith, ints, nat_tests))

pub returns-in_ok-value : goal.returns-in_ok-value
returns-in_ok-value c =
    let s : sleb_value c.args.bytes.now ≡ pos (digits_value false c.args.bytes.now) = sleb_value_above c.args.bytes.now _ (omega arith) c.if-bytes-lt-SIGN.true in
    rw s (grind (arith, ints, nat_tests))

pub returns-in_ok-below-2 : goal.returns-in_ok-below-2
returns-in_ok-below-2 c =
    let s : sleb_value c.args.bytes.now ≡ negsuc (digits_value true c.args.bytes.now) = sleb_value_below c.args.bytes.now _ (omega arith) c.if-bytes-lt-SIGN.false in
    let x : c.in_ok-below-2.below ≡ pos c.in_ok-below.below = search rules in
    rw (s, x) (grind (arith, ints, nat_tests), omega (arith, ints))
