use Rattle.std.proofs.Common.{◌≡◌, ℕ, Option, Some, map, refl, ap, ◌∙◌, arith}
use Rattle.std.specs.List.{range_with_len}
use Rattle.std.proofs.lemmas.List.FromFn.{map-range_with_len_more}
use Rattle.link_cli.proofs.generate.numbers_below.Goals as goal

abbrev some : ℕ → Option ℕ
some k = Some k

pub loop-k-preserved : goal.loop-k-preserved
loop-k-preserved c = rw (c.in_ok-push.ensures.ok, c.loop-k.invariant, map-range_with_len_more some 0 c.loop-k.k c.loop-k.k (omega arith)) refl

pub returns : goal.returns
returns c =
    let end : c.loop-k.k ≡ c.args.count = omega (arith, c.loop-k-test.false, c.loop-k.auto.k-end) in
    c.loop-k.invariant ∙ ap (λ (n : ℕ). map some (range_with_len 0 n)) end
