use Rattle.std.proofs.Common.{arith}
use Rattle.ds_base.proofs.LebValues.{rest_times}
use Rattle.ds_base.proofs.leb.value_of.Goals as goal

-- one digit more makes the value too wide, and so do all digits
pub returns-then-value : goal.returns-then-value
returns-then-value c fits = omega (arith, rest_times c.args.flip c.args.bytes.now c.loop-i.i (omega arith))
