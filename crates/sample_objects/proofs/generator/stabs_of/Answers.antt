use Rattle.std.proofs.Common.{◌≡◌, ◌+◌, ℕ, refl, ap, ◌∙◌, arith}
use Rattle.std.specs.List.{flat_map, range_with_len}
use Rattle.sample_objects.specs.GeneratedProgram.{object_stabs}
use Rattle.sample_objects.proofs.Ranges.{flat_map_more}
use Rattle.sample_objects.proofs.generator.stabs_of.Goals as goal

pub loop-k-preserved : goal.loop-k-preserved
loop-k-preserved c = rw (c.in_ok-add_object_stabs.ensures, c.loop-k.invariant, flat_map_more object_stabs c.loop-k.k 1 (c.loop-k.k + 1) (omega arith)) refl

pub returns : goal.returns
returns c =
    let end : c.loop-k.k ≡ c.args.count = omega (arith, c.loop-k-test.false, c.loop-k.auto.k-end) in
    c.loop-k.invariant ∙ ap (λ (n : ℕ). flat_map object_stabs (range_with_len 1 n)) end
