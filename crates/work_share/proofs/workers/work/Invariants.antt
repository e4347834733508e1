use Rattle.std.proofs.Common.{◌≡◌}
use Rattle.work_share.specs.Numbers.{left}
use Rattle.work_share.specs.Seats.{known, Belongs}
use Rattle.work_share.specs.Worked.{Worked}
use Rattle.work_share.proofs.workers.work.Given as goal

abbrev pub invariant-loop-item : goal.invariant-loop-item
invariant-loop-item g l = Belongs l.tasks l.seat × ((known l.seat).share ≡ (known l.fn.seat).share) × Worked (g.J.Job.gives l.job) l.tasks.count (known l.seat).drawn l.done.items

abbrev pub decreases-loop-item : goal.decreases-loop-item
decreases-loop-item g l = left l.tasks.count (known l.seat).drawn
