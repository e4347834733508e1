use Rattle.std.proofs.Common.{sym}
use Rattle.ds_base.proofs.Zeros.{first_zero_is}
use Rattle.ds_base.proofs.cursor.first_zero.Goals as goal

pub returns-clause-is : goal.returns-clause-is
returns-clause-is c = sym (first_zero_is c.args.bytes.now c.memchr.result c.memchr.ensures)
