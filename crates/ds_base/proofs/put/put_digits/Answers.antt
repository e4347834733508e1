use Rattle.std.proofs.Common.{arith}
use Rattle.ds_base.proofs.Rooms.{digits_put, last_digit_put}
use Rattle.ds_base.proofs.put.put_digits.Goals as goal

pub loop-i-preserved : goal.loop-i-preserved
loop-i-preserved c = digits_put _ _ c.args.at c.loop-i.i c.args.len _ _ _ (omega arith) (omega arith) c.digit_of.ensures.is c.loop-i.invariant

pub returns : goal.returns
returns c = last_digit_put _ _ c.args.at c.loop-i.i c.args.len _ _ _ (omega arith) (omega arith) c.digit_of-2.ensures.is c.loop-i.invariant
