use Rattle.std.proofs.Common.{subst}
use Rattle.std.proofs.lemmas.Result.{IfOk-at_ok}
use Rattle.type_pool.specs.declared.view.View.{View}
use Rattle.type_pool.specs.Views as pool_views
use Rattle.work_share.specs.declared.view.TaskView.{TaskView}
use Rattle.work_share.specs.Counter as task_views
use Rattle.name_bids.specs.Sharing.{HasWorked, seat_view, turn_view}
use Rattle.name_bids.proofs.Workers.{worked_both}
use Rattle.name_bids.proofs.sharing.+bidders.Goals as goal

pub returns : goal.returns
returns g t c =
    let names = g.W.Worker.book c.args.worker.now in
    let pool = c.args.pool.now in
    let work = c.args.tasks.now in
    let a = c.in_ok-seat in
    let b = c.in_ok-other in
    let seats = c.in-Some.ensures.halves in
    let turns = c.in-Some-split.ensures.some in
    let v : View = seat_view c.args.seat in
    let u : TaskView = turn_view c.args.turn in
    let first : HasWorked names pool work (pool_views.kept_half v) (task_views.kept_half u) a.seat a.turn a.noted.items =
    subst (λ (w : View). HasWorked names pool work w (task_views.kept_half u) a.seat a.turn a.noted.items) seats.1
    (subst (λ (w : TaskView). HasWorked names pool work (seat_view c.split.new.seat) w a.seat a.turn a.noted.items) turns.0
    (IfOk-at_ok (λ r. HasWorked names pool work _ _ r.0 r.1 r.2.items) {r = c.join-a.result.0} a.was c.join-a.ensures.first)) in
    let second : HasWorked names pool work (pool_views.given_half v) (task_views.given_half u) b.other b.other_turn b.more.items =
    subst (λ (w : View). HasWorked names pool work w (task_views.given_half u) b.other b.other_turn b.more.items) seats.2
    (subst (λ (w : TaskView). HasWorked names pool work (seat_view c.in-Some.other) w b.other b.other_turn b.more.items) turns.1
    (IfOk-at_ok (λ r. HasWorked names pool work _ _ r.0 r.1 r.2.items) {r = c.join-a.result.1} b.was c.join-a.ensures.second)) in
    rw c.in_ok-append.ensures.items
    (worked_both names pool work v u a.seat b.other c.join.new.seat a.turn b.other_turn c.join-2.new.seat a.noted.items b.more.items first second (c.join.ensures.belongs, c.join-2.ensures.belongs) c.join.ensures.united c.join-2.ensures.united)
