use Rattle.std.proofs.Common.{arith}
use Rattle.ds_base.proofs.Items.{items_more}
use Rattle.line_read.specs.Entries.{pair_at}
use Rattle.line_read.proofs.entries.read_pairs.Goals as goal

pub loop-preserved : goal.loop-preserved
loop-preserved c =
    rw c.in_ok-push.ensures.ok (items_more (pair_at c.args.header) c.args.count c.loop.counter c.loop.items c.loop.cursor _ _ _ (omega arith) c.in_ok-read_pair.ensures c.loop.invariant)
