use Rattle.std.proofs.Common.{◌≡◌, ◌+◌, ℕ, map, refl, ap, ◌∙◌, arith}
use Rattle.std.specs.List.{range_with_len}
use Rattle.std.proofs.lemmas.List.FromFn.{map-range_with_len_more}
use Rattle.sample_objects.specs.GeneratedProgram.{map_object}
use Rattle.sample_objects.proofs.generator.objects_of.Goals as goal

pub loop-k-preserved : goal.loop-k-preserved
loop-k-preserved c = rw (c.in_ok-push.ensures.ok, c.in_ok-object.ensures, c.loop-k.invariant, map-range_with_len_more map_object 1 c.loop-k.k (c.loop-k.k + 1) (omega arith)) refl

pub returns : goal.returns
returns c =
    let end : c.loop-k.k ≡ c.args.count = omega (arith, c.loop-k-test.false, c.loop-k.auto.k-end) in
    c.loop-k.invariant ∙ ap (λ (n : ℕ). map map_object (range_with_len 1 n)) end
