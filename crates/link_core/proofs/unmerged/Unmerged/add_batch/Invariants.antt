use Rattle.std.proofs.Common.{◌≡◌, ◌+◌, ◌++◌, ℕ, List, length}
use Rattle.object_reads.specs.declared.target.Target.{Target}
use Rattle.object_reads.specs.Sources.{Source}
use Rattle.link_core.specs.Unmerged.{MayAddBatch, SoFar}
use Rattle.link_core.proofs.unmerged.Unmerged.add_batch.Given as goal

-- the objects so far are put behind the others
abbrev pub invariant-loop-out : goal.invariant-loop-out
invariant-loop-out l =
    (l.yielded ++ l.out-iterator.rest.items ≡ l.initial.out-iterator.rest.items)
    × ((target : Target) (start first count : ℕ) (sources : List Source) → MayAddBatch target start sources first count l.initial.self l.initial.out-iterator.rest.items → SoFar target start sources (first + length l.yielded) l.self)
