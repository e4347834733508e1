use Rattle.std.proofs.Common.{arith}
use Rattle.dwarf_types.proofs.Readers.{AreBytes-from}
use Rattle.expr_resolve.proofs.Cutting.{given_cut, given_size}
use Rattle.expr_resolve.proofs.expression.cut.Goals as goal

pub returns-clause-cut : goal.returns-clause-cut
returns-clause-cut c = given_cut c.args.bytes.now c.args.names.now.part c.args.first c.args.names.now.version c.walk.result c.walk.new.ops.ops (AreBytes-from c.args.bytes.now (λ i. let small = c.type_inv.bytes i in omega (arith, small))) c.walk.ensures.exact

pub returns-clause-size : goal.returns-clause-size
returns-clause-size c = given_size c.args.bytes.now c.walk.result c.walk.new.ops.ops c.walk.ensures.whole
