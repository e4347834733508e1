use Rattle.std.proofs.Common.{◌≡◌, ℕ, ap, sym, subst}
use Rattle.work_share.specs.declared.view.TaskView.{TaskView}
use Rattle.work_share.specs.Seats.{known}
use Rattle.work_share.specs.Results.{GivesAll}
use Rattle.work_share.specs.Worked.{InOrder}
use Rattle.work_share.specs.Shares.{Finished}
use Rattle.work_share.proofs.Working.{gives_all, if_ok}
use Rattle.work_share.proofs.workers.each.Goals as goal

pub returns : goal.returns
returns g c =
    let gives : ℕ → g.row.J-Out.Denot → Type 0 = g.J.Job.gives c.args.job.now in
    let tasks = c.in_ok-tasks.tasks in
    let done = c.in_ok-_seat.done.items in
    let counts : tasks.count ≡ c.args.count = c.in_ok-tasks.ensures.count in
    let whole : (known c.in_ok-tasks.seat).share ≡ 64 = ap (λ (v : TaskView). v.share) c.in_ok-tasks.ensures.seat.1 in
    let end : Finished gives tasks 64 c.in_ok-_seat._seat done = subst (λ n. Finished gives tasks n c.in_ok-_seat._seat done) whole c.in_ok-_seat.ensures in
    if_ok (InOrder c.args.count done) (GivesAll gives c.args.count) c.in_order.result
    (λ outs order. subst (λ n. GivesAll gives n outs) counts (gives_all gives tasks c.in_ok-_seat._seat done end c.in_ok-_seat._seat.fair outs (subst (λ n. InOrder n done outs) (sym counts) order)))
    c.in_order.ensures
