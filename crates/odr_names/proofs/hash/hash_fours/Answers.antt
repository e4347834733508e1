use Rattle.std.proofs.Common.{◌≡◌, ◌+◌, ◌*◌, ◌∙◌, ap, arith, ℕ, drop}
use Rattle.type_names.specs.Start.{hash_from}
use Rattle.odr_names.proofs.FourBytes.{fours_more}
use Rattle.odr_names.proofs.hash.hash_fours.Goals as goal

pub loop-i-preserved : goal.loop-i-preserved
loop-i-preserved c =
    let at : 4 * (c.loop-i.i + 1) ≡ 4 * c.loop-i.i + 4 = omega arith in
    ap (λ (n : ℕ). hash_from c.hash_four-state.result (drop n c.args.bytes.now)) at
    ∙ fours_more c.loop-i.state c.hash_four-state.result (4 * c.loop-i.i) _ c.args.bytes.now (omega (arith, c.requires, c.loop-i-test.true)) c.hash_four-state.ensures c.loop-i.invariant
