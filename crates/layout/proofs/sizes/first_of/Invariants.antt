use Rattle.std.proofs.Common.{◌≡◌, drop}
use Rattle.layout.specs.Lengths.{size_in}
use Rattle.layout.specs.Pass.{is_long, long_in}
use Rattle.layout.proofs.sizes.first_of.Given as goal

abbrev pub invariant-loop-section : goal.invariant-loop-section
invariant-loop-section l = long_in (λ content. is_long (size_in l.sizes content)) (drop l.section-index l.sections) ≡ long_in (λ content. is_long (size_in l.sizes content)) l.sections
