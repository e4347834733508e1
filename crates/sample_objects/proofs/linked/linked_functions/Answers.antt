use Rattle.std.proofs.Common.{◌≡◌, ◌<◌, ℕ, refl, ap, ◌∙◌, arith}
use Rattle.std.specs.List.{filter, range_with_len}
use Rattle.std.proofs.lemmas.List.Elements.{All-same}
use Rattle.sample_objects.specs.GeneratedProgram.{is_linked}
use Rattle.sample_objects.specs.GeneratedUnit.{all_numbers}
use Rattle.sample_objects.proofs.Ranges.{filter_more, filtered_below}
use Rattle.sample_objects.proofs.linked.linked_functions.Goals as goal

pub loop-j-preserved : goal.loop-j-preserved
loop-j-preserved c = rw (c.in_ok-add_if_linked.ensures, c.loop-j.invariant, filter_more is_linked c.loop-j.j 0 c.loop-j.j (omega arith)) refl

pub returns-clause-numbers : goal.returns-clause-numbers
unfolding all_numbers
returns-clause-numbers c =
    let end : c.loop-j.j ≡ 100 = omega (arith, c.loop-j-test.false, c.loop-j.auto.j-end) in
    c.loop-j.invariant ∙ ap (λ (n : ℕ). filter is_linked (range_with_len 0 n)) end

pub returns-clause-each : goal.returns-clause-each
returns-clause-each c =
    let end : c.loop-j.j ≡ 100 = omega (arith, c.loop-j-test.false, c.loop-j.auto.j-end) in
    All-same (λ (j : ℕ). j < 100) c.loop-j.numbers (filter is_linked (range_with_len 0 100)) (c.loop-j.invariant ∙ ap (λ (n : ℕ). filter is_linked (range_with_len 0 n)) end) (filtered_below is_linked 100)
