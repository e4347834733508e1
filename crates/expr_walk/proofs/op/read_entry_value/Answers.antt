use Rattle.std.proofs.Common.{arith}
use Rattle.expr_walk.proofs.Cuts.{block_end, bytes_fit}
use Rattle.expr_walk.proofs.op.read_entry_value.Goals as goal

pub read_inner-requires-clause-place : goal.read_inner-requires-clause-place
read_inner-requires-clause-place c =
    let end = (bytes_fit _ _ _ c.in_ok-inside.ensures.read).1 in
    omega (arith, end, c.in_ok-inside.ensures.len, c.place-place.ensures, c.place-end.ensures)

pub bytes_up_to-requires-clause-behind : goal.bytes_up_to-requires-clause-behind
bytes_up_to-requires-clause-behind c =
    let end = (block_end c.args.first.now c.args.cursor.now _ _ _ c.requires.ahead c.in_ok-len.ensures c.in_ok-inside.ensures.read).0 in
    omega (arith, end, c.place-end.ensures)

pub bytes_up_to-requires-clause-inside : goal.bytes_up_to-requires-clause-inside
bytes_up_to-requires-clause-inside c =
    let end = (block_end c.args.first.now c.args.cursor.now _ _ _ c.requires.ahead c.in_ok-len.ensures c.in_ok-inside.ensures.read).1 in
    omega (arith, end, c.place-end.ensures)
