use Rattle.std.proofs.Common.{◌≡◌, ℕ, take}
use Rattle.std.specs.List.{sum_by}
use Rattle.ds_base.specs.declared.fault.Part.{Part}
use Rattle.sample_objects.proofs.sections.total_size.Given as goal

abbrev pub invariant-loop-size : goal.invariant-loop-size
invariant-loop-size l = l.total ≡ sum_by (λ (s : Part × ℕ). s.1) (take l.size-index l.sized)
