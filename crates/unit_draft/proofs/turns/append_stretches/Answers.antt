use Rattle.std.proofs.Common.{Result, OnOk, sym, subst, arith}
use Rattle.std.proofs.lemmas.Result.{err_from_is_err_and}
use Rattle.ds_base.specs.declared.fault.NoMemory.{NoMemory}
use Rattle.unit_draft.specs.declared.error.DraftError.{DraftError}
use Rattle.unit_draft.specs.Stretches.{AppendsStretch, IsStretch, PreparesStretch}
use Rattle.unit_draft.proofs.Stretching.{turn_appended, turn_ends, turn_long, turn_prepared, turn_with}
use Rattle.unit_draft.proofs.turns.append_stretches.Goals as goal

pub returns-in_err-appended-clause-long : goal.returns-in_err-appended-clause-long
returns-in_err-appended-clause-long g c =
    let p = err_from_is_err_and c.from_residual-in_err-appended.result c.from_residual-in_err-appended.ensures.1 in
    let h = c.loop-preparer.invariant in
    let a = c.loop-preparer.appender in
    let b = c.run_both-prepared.new.b in
    let refused = subst (λ (r : Result (Unit {0}) DraftError). AppendsStretch a r b) c.in_err-appended.was c.run_both-prepared.ensures.b in
    rw (p.1, p.2) (turn_long g.S.UnitSource.unit c.args.number (g.S.UnitSource.unit c.args.unit.now) c.args.appender.now c.loop-preparer.preparer a h.0 a.stretch h.1 h.2 _ b c.requires.begun refused)

pub loop-preparer-preserved : goal.loop-preparer-preserved
loop-preparer-preserved g c =
    let given = g.S.UnitSource.unit in
    let number = c.args.number in
    let unit = given c.args.unit.now in
    let start = c.args.appender.now in
    let h = c.loop-preparer.invariant in
    let p = c.loop-preparer.preparer in
    let a = c.loop-preparer.appender in
    let q = c.run_both-prepared.new.a in
    let b = c.run_both-prepared.new.b in
    let appended = subst (λ (r : Result (Unit {0}) DraftError). AppendsStretch a r b) c.in_ok-appended.was c.run_both-prepared.ensures.b in
    let prepared = subst (λ (r : Result (Unit {0}) NoMemory). OnOk r (PreparesStretch given p.number (given p.unit.now) p q)) c.in_ok-prepared.was c.run_both-prepared.ensures.a in
    let next = turn_prepared given number unit start p q b (turn_appended given number unit start p a h.0 a.stretch h.1 h.2 b appended) prepared in (
      next.0,
      subst (IsStretch next.0) (sym c.swap-in-loop-preparer.ensures.y_after) next.1,
      turn_with given number unit start q b next.0 c.swap-in-loop-preparer.new.x c.swap-in-loop-preparer.new.y next.2,
    )

pub returns-clause-entered : goal.returns-clause-entered
returns-clause-entered g c =
    let h = c.loop-preparer.invariant in
    let a = c.loop-preparer.appender in
    turn_ends g.S.UnitSource.unit c.args.number (g.S.UnitSource.unit c.args.unit.now) c.args.appender.now c.loop-preparer.preparer a h.0 a.stretch h.1 h.2 c.requires.begun
    (omega (arith, c.loop-preparer-test.false, c.len-count.ensures)) c.run-2.result c.run-2.new.self c.run-2.ensures

pub returns-clause-long : goal.returns-clause-long
returns-clause-long g c =
    let h = c.loop-preparer.invariant in
    let a = c.loop-preparer.appender in
    turn_long g.S.UnitSource.unit c.args.number (g.S.UnitSource.unit c.args.unit.now) c.args.appender.now c.loop-preparer.preparer a h.0 a.stretch h.1 h.2 c.run-2.result c.run-2.new.self c.requires.begun c.run-2.ensures
