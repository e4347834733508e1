use Rattle.std.proofs.Common.{◌≡◌, ◌<◌, ◌≤◌, ℕ, Some, length, get_or, slice_get}
use Rattle.object_reads.proofs.files.last_objects.Given as goal

-- the same of the objects so far
abbrev pub invariant-loop-k : goal.invariant-loop-k
invariant-loop-k l = (length l.last.items ≡ l.files) × ((k n : ℕ) → k < l.k → slice_get l.source k ≡ Some (Some n) → k ≤ get_or l.last.items n k)
