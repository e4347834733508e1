use Rattle.std.proofs.Common.{◌≡◌, ◌++◌, ℕ, refl, ap, ◌∙◌, append_assoc, arith}
use Rattle.std.specs.List.{flat_map, range_with_len}
use Rattle.sample_objects.specs.GeneratedUnit.{all_numbers, function_tree}
use Rattle.sample_objects.proofs.Ranges.{flat_map_more}
use Rattle.sample_objects.proofs.unit.add_functions.Goals as goal

pub loop-j-preserved : goal.loop-j-preserved
loop-j-preserved c = rw (c.in_ok-add_function_tree.ensures, c.loop-j.invariant, flat_map_more (function_tree c.args.i) c.loop-j.j 0 c.loop-j.j (omega arith), append_assoc) refl

pub returns : goal.returns
unfolding all_numbers
returns c =
    let end : c.loop-j.j ≡ 100 = omega (arith, c.loop-j-test.false, c.loop-j.auto.j-end) in
    c.loop-j.invariant ∙ ap (λ (n : ℕ). c.args.nodes.now ++ flat_map (function_tree c.args.i) (range_with_len 0 n)) end
