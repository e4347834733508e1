use Rattle.std.proofs.Common.{ap, arith}
use Rattle.std.proofs.lemmas.Result.{IfOk-at_ok}
use Rattle.work_share.specs.declared.view.TaskView.{TaskView}
use Rattle.work_share.specs.Seats.{known}
use Rattle.work_share.specs.Shares.{Finished}
use Rattle.work_share.proofs.Working.{finished_both}
use Rattle.work_share.proofs.workers.+sharing.Goals as goal

pub returns : goal.returns
returns g t c =
    let some = c.in-Some.ensures.some in
    let kept = ap (λ (v : TaskView). v.share) some.0 in
    let given = ap (λ (v : TaskView). v.share) some.1 in
    rw c.in_ok-append.ensures.items
    (finished_both (g.J.Job.gives c.args.job.now) c.args.tasks.now (known c.args.seat).share c.in_ok-seat.seat c.in_ok-other.other c.join.new.seat c.in_ok-seat.done.items c.in_ok-other.more.items _ _
    (IfOk-at_ok (λ r. Finished (g.J.Job.gives c.args.job.now) c.args.tasks.now _ r.0 r.1.items) {r = c.join-a.result.0} c.in_ok-seat.was c.join-a.ensures.first)
    (IfOk-at_ok (λ r. Finished (g.J.Job.gives c.args.job.now) c.args.tasks.now _ r.0 r.1.items) {r = c.join-a.result.1} c.in_ok-other.was c.join-a.ensures.second)
    (omega (arith, kept, given)) c.join.ensures.united c.join.ensures.belongs)
