use Rattle.std.proofs.Common.{◌≡◌, ◌≤◌, ◌+◌, ◌-◌, ◌++◌, ℕ, Bool, List, length}
use Rattle.work_share.specs.Results.{GivesAll}
use Rattle.object_reads.specs.declared.target.Target.{Target}
use Rattle.object_reads.specs.Sources.{Source}
use Rattle.object_reads.specs.MadeNames.{HaveNames, NamesAt}
use Rattle.object_reads.specs.Reading.{Going, ReadsAt}
use Rattle.object_reads.proofs.reading.all_read.Given as goal

-- the objects so far are read
abbrev pub invariant-loop-out : goal.invariant-loop-out
invariant-loop-out l =
    (l.yielded ++ l.out-iterator.rest.items ≡ l.initial.out-iterator.rest.items)
    × ((target : Target) (first : ℕ) (sources : List Source) → first ≤ length sources → GivesAll (λ k out. ReadsAt target sources (first + k) out) (length sources - first) l.initial.out-iterator.rest.items
    → Going target first sources (first + length l.yielded) l.seen l.marks)
    × (length l.seen ≡ length l.yielded) × (length l.marks ≡ length l.yielded)
    × ((named : Bool) (count : ℕ) → GivesAll (NamesAt named) count l.initial.out-iterator.rest.items → HaveNames named l.seen l.marks l.made)
