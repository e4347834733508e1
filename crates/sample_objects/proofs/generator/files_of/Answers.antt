use Rattle.std.proofs.Common.{◌≡◌, ◌+◌, ℕ, List, map, refl, ap, ◌∙◌, arith}
use Rattle.std.specs.List.{range_with_len}
use Rattle.std.proofs.lemmas.List.FromFn.{map-range_with_len_more}
use Rattle.sample_objects.specs.GeneratedProgram.{spec_of}
use Rattle.sample_objects.specs.ObjectFile.{object_bytes}
use Rattle.sample_objects.proofs.generator.files_of.Goals as goal

abbrev file_in : ℕ → List ℕ
file_in i = object_bytes (spec_of i)

pub loop-k-preserved : goal.loop-k-preserved
loop-k-preserved g c = rw (c.in_ok-push.ensures.ok, c.in_ok-file.ensures, c.loop-k.invariant, map-range_with_len_more file_in 1 c.loop-k.k (c.loop-k.k + 1) (omega arith)) refl

pub returns : goal.returns
returns g c =
    let end : c.loop-k.k ≡ c.args.count = omega (arith, c.loop-k-test.false, c.loop-k.auto.k-end) in
    c.loop-k.invariant ∙ ap (λ (n : ℕ). map file_in (range_with_len 1 n)) end
