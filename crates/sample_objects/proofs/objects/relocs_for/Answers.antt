use Rattle.std.proofs.Common.{◌≡◌, ℕ, map, refl, ap, ◌∙◌, arith}
use Rattle.std.specs.List.{range_with_len}
use Rattle.std.proofs.lemmas.List.FromFn.{map-range_with_len_more}
use Rattle.sample_objects.specs.GeneratedProgram.{reloc_of}
use Rattle.sample_objects.specs.GeneratedUnit.{all_numbers}
use Rattle.sample_objects.proofs.objects.relocs_for.Goals as goal

pub loop-j-preserved : goal.loop-j-preserved
loop-j-preserved g c = rw (c.in_ok-push.ensures.ok, c.reloc_for-reloc.ensures, c.loop-j.invariant, map-range_with_len_more (reloc_of c.args.i) 0 c.loop-j.j c.loop-j.j (omega arith)) refl

pub returns : goal.returns
unfolding all_numbers
returns g c =
    let end : c.loop-j.j ≡ 100 = omega (arith, c.loop-j-test.false, c.loop-j.auto.j-end) in
    c.loop-j.invariant ∙ ap (λ (n : ℕ). map (reloc_of c.args.i) (range_with_len 0 n)) end
