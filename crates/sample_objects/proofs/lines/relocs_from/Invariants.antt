use Rattle.std.proofs.Common.{◌≡◌, ◌+◌, ◌++◌, ℕ, drop, map}
use Rattle.std.specs.List.{sum_by}
use Rattle.sample_objects.specs.Lines.{places_by}
use Rattle.sample_objects.specs.ObjectFile.{counts_from_text}
use Rattle.sample_objects.proofs.lines.relocs_from.Given as goal

abbrev pub invariant-loop-size : goal.invariant-loop-size
invariant-loop-size l = record {
  done : l.relocs ++ map counts_from_text (places_by l.at (drop l.size-index l.sizes)) ≡ map counts_from_text (places_by l.start l.sizes);
  sum : l.at + sum_by (λ (n : ℕ). n) (drop l.size-index l.sizes) ≡ l.start + sum_by (λ (n : ℕ). n) l.sizes;
}
