use Rattle.std.proofs.Common.{arith}
use Rattle.expr_walk.proofs.Cuts.{operands_end}
use Rattle.expr_walk.proofs.op.read_plain_behind.Goals as goal

pub bytes_up_to-requires-clause-behind : goal.bytes_up_to-requires-clause-behind
bytes_up_to-requires-clause-behind c =
    let end = (operands_end c.args.operands c.args.first.now c.args.cursor.now c.read_operands.new.cursor c.in_ok-named.named c.requires c.in_ok-named.ensures).0 in
    omega (arith, end, c.place.ensures)

pub bytes_up_to-requires-clause-inside : goal.bytes_up_to-requires-clause-inside
bytes_up_to-requires-clause-inside c =
    let end = (operands_end c.args.operands c.args.first.now c.args.cursor.now c.read_operands.new.cursor c.in_ok-named.named c.requires c.in_ok-named.ensures).1 in
    omega (arith, end, c.place.ensures)
