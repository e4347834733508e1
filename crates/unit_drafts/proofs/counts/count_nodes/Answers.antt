use Rattle.std.proofs.Common.{arith}
use Rattle.unit_drafts.proofs.Counting.{nodes_so_far}
use Rattle.unit_drafts.proofs.counts.count_nodes.Goals as goal

pub overflow_add-n : goal.overflow_add-n
overflow_add-n c =
    let bound = nodes_so_far c.args.drafts.now c.loop-draft.draft-index c.draft-item.result c.requires.few c.loop-draft-test.true c.draft-item.is in
    omega (arith, bound, c.loop-draft.invariant, c.len.ensures)
