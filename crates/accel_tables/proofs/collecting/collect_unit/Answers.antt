use Rattle.std.proofs.Common.{◌∙◌, Bool, List, false, get_or, length, ap, arith}
use Rattle.accel_tables.specs.EnteredNames.{names_of_node}
use Rattle.accel_tables.proofs.Inside.{as_long, item_more, told_of}
use Rattle.accel_tables.proofs.collecting.collect_unit.Goals as goal

pub bounds-inside-k : goal.bounds-inside-k
bounds-inside-k c = omega (arith, c.loop-k-test.true, ap length c.as_slice-inside.ensures.value, as_long c.args.nodes.now (length c.args.nodes.now) c.in_ok-row.row.items c.in_ok-row.ensures)

pub loop-k-preserved : goal.loop-k-preserved
loop-k-preserved c =
    item_more (names_of_node c.args.graph.now c.args.which c.args.unit c.args.nodes.now) c.loop-k.pairs c.put_node.new.pairs c.args.nodes.now c.loop-k.k c.index-nodes-k.result _ c.loop-k-test.true c.index-nodes-k.is
    (c.in_ok-put_node.ensures c.args.nodes.now (ap (λ (bs : List Bool). get_or bs c.loop-k.k false) c.as_slice-inside.ensures.value ∙ told_of c.args.nodes.now (length c.args.nodes.now) c.loop-k.k c.in_ok-row.row.items c.in_ok-row.ensures c.loop-k-test.true))
    c.loop-k.invariant
