use Rattle.std.proofs.Common.{arith}
use Rattle.std.proofs.lemmas.Result.{err_from_is_err_and}
use Rattle.line_read.proofs.UlebLoop.{ulebs_more, ulebs_fail, ulebs_end}
use Rattle.line_read.proofs.operation.skip_ulebs.Goals as goal

pub returns-in_err-uleb : goal.returns-in_err-uleb
returns-in_err-uleb c =
    let p = err_from_is_err_and c.from_residual.result c.from_residual.ensures.1 in
    rw (p.1, p.2) (ulebs_fail c.args.count c.loop.counter c.loop.cursor _ _ (omega arith) c.in_err-uleb.ensures.0 c.loop.invariant)

pub loop-preserved : goal.loop-preserved
loop-preserved c = ulebs_more c.args.count c.loop.counter c.loop.cursor _ _ _ (omega arith) c.in_ok-uleb.ensures c.loop.invariant

pub returns : goal.returns
returns c = ulebs_end c.args.count c.loop.counter c.loop.cursor _ (omega arith) c.loop.invariant
