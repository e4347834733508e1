use Rattle.std.proofs.Common.{◌<◌, ◌∙◌, ap, get_or, length, arith}
use Rattle.layout.proofs.DraftRuns.{long_here, one_drafted}
use Rattle.layout.proofs.drafting.draft_units.Goals as goal

pub returns-in-Err-Unit : goal.returns-in-Err-Unit
returns-in-Err-Unit g c =
    let graph = c.args.graph.now in
    let same = c.as_slice-unit-items.ensures in
    let lt : c.loop-u.u < length graph.units = omega (arith, c.loop-u-test.true, ap length same) in
    let is = c.unit-item.is ∙ ap (λ us. get_or us c.loop-u.u c.unit-item.result) same in
    long_here graph c.loop-u.u c.unit-item.result c.loop-u.drafts lt is c.loop-u.invariant (rw c.in-Err-Unit.field-0-is at c.in-Err-Unit.ensures)

pub loop-u-preserved : goal.loop-u-preserved
loop-u-preserved g c =
    let graph = c.args.graph.now in
    let same = c.as_slice-unit-items.ensures in
    let lt : c.loop-u.u < length graph.units = omega (arith, c.loop-u-test.true, ap length same) in
    let is = c.unit-item.is ∙ ap (λ us. get_or us c.loop-u.u c.unit-item.result) same in
    one_drafted graph c.loop-u.u c.unit-item.result c.loop-u.drafts _ _ lt is c.loop-u.invariant c.in-Ok.ensures c.in_ok-push.ensures.ok
