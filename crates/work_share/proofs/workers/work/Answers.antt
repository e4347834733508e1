use Rattle.std.proofs.Common.{refl, ap, ◌∙◌}
use Rattle.work_share.specs.declared.view.TaskView.{TaskView}
use Rattle.work_share.specs.Seats.{known}
use Rattle.work_share.proofs.Working.{worked_none, worked_more, finished_alone}
use Rattle.work_share.proofs.workers.work.Goals as goal

pub loop-item-init : goal.loop-item-init
loop-item-init g c = (c.requires.seat.belongs, refl, rw c.new-done.ensures.items (worked_none _ _ _ c.requires.seat.idle))

pub loop-item-preserved : goal.loop-item-preserved
loop-item-preserved g c =
    let some = c.in-Some.ensures.some in (
      c.in-Some.ensures.belongs,
      ap (λ (v : TaskView). v.share) some.2 ∙ c.loop-item.invariant.1,
      rw (c.in_ok-push.ensures.items, some.2) (worked_more (g.J.Job.gives c.args.job.now) c.args.tasks.now.count (known c.loop-item.seat).drawn c.loop-item.done.items c.in-Some.item _ c.loop-item.invariant.2 some.0 c.run-out.ensures),
    )

pub returns : goal.returns
returns g c =
    finished_alone (g.J.Job.gives c.args.job.now) c.args.tasks.now _ c.loop-item.seat c.claim.new.seat c.loop-item.done.items c.loop-item.invariant.1 c.loop-item.invariant.2 c.in_default.ensures.belongs
    (c.in_default.ensures.ended.0 refl) (c.in_default.ensures.none)
