use Rattle.std.proofs.Common.{◌≡◌, ◌++◌, length}
use Rattle.work_share.proofs.Ordering.{GivesEach}
use Rattle.work_share.proofs.ordered.by_items.Given as goal

abbrev pub invariant-loop-slot : goal.invariant-loop-slot
invariant-loop-slot g l =
    (l.yielded ++ l.slot-iterator.rest.items ≡ l.initial.slot-iterator.rest.items) × (length l.outs.items ≡ length l.yielded) × GivesEach (g.J.Job.gives l.job) l.outs.items
