use Rattle.accel_tables.proofs.Inside.{told_more}
use Rattle.accel_tables.proofs.collecting.inside_row.Goals as goal

pub loop-k-preserved : goal.loop-k-preserved
loop-k-preserved c = told_more c.args.nodes.now c.loop-k.k c.loop-k.row.items c.push.new.self.items c.stands_inside.result c.stands_inside.ensures c.in_ok-push.ensures.items c.loop-k.invariant
