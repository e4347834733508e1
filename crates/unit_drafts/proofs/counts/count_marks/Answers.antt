use Rattle.std.proofs.Common.{arith}
use Rattle.unit_drafts.proofs.Counting.{marks_so_far}
use Rattle.unit_drafts.proofs.counts.count_marks.Goals as goal

pub overflow_add-n : goal.overflow_add-n
overflow_add-n c = omega (arith, marks_so_far c.args.row.now c.loop-k.k, c.loop-k.invariant, c.loop-k-test.true, c.ranges.size.fits)
