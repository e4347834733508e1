use Rattle.std.proofs.Common.{arith}
use Rattle.unit_drafts.proofs.Counting.{entries_so_far}
use Rattle.unit_drafts.proofs.counts.count_entries.Goals as goal

pub overflow_add-n : goal.overflow_add-n
overflow_add-n c =
    let bound = entries_so_far c.args.seen.now c.loop-object.object-index c.object-item.result c.requires.sound c.requires.few c.loop-object-test.true c.object-item.is in
    omega (arith, bound, c.loop-object.invariant, c.len.ensures)
