use Rattle.std.proofs.Common.{sym, arith}
use Rattle.accel_tables.proofs.Inside.{as_long, inside_first, inside_more, inside_stray}
use Rattle.accel_tables.proofs.collecting.stands_inside.Goals as goal

pub bounds-row-above : goal.bounds-row-above
bounds-row-above c = omega (arith, as_long c.args.nodes.now c.args.k c.args.row.now c.requires, c.if-above-k.false)

pub returns-then-is_subprogram : goal.returns-then-is_subprogram
returns-then-is_subprogram c = inside_first c.args.nodes.now c.args.k c.in-Some.parent (sym c.in-Some.ensures) (sym c.if-is_subprogram.ensures)

pub returns-then-above-k : goal.returns-then-above-k
returns-then-above-k c = inside_stray c.args.nodes.now c.args.k c.in-Some.parent (sym c.in-Some.ensures) (sym c.if-is_subprogram.ensures) c.if-above-k.true

pub returns : goal.returns
returns c = inside_more c.args.nodes.now c.args.k c.in-Some.parent c.args.row.now (sym c.in-Some.ensures) (sym c.if-is_subprogram.ensures) c.if-above-k.false c.requires
