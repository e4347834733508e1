use Rattle.std.proofs.Common.{length}
use Rattle.frame_table.specs.Order.{is_missed}
use Rattle.frame_table.proofs.Missing.{earlier_first}
use Rattle.frame_table.proofs.naming.first_missed.Goals as goal

pub loop-i-preserved : goal.loop-i-preserved
loop-i-preserved c = rw c.earlier-first.ensures (earlier_first (is_missed c.args.size c.args.entries.now) (length c.args.entries.now) c.loop-i.i c.loop-i.first c.missed_at.result c.loop-i.invariant c.missed_at.ensures)
