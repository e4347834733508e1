use Rattle.std.proofs.Common.{map}
use Rattle.link_graph.specs.PoolOrder.{name_of, nexts}
use Rattle.link_graph.proofs.PoolWalks.{IsWalking, measure_of}
use Rattle.link_graph.proofs.pool.order_of.Given as goal

-- the winners so far, and the chains that are left
abbrev pub invariant-loop-top : goal.invariant-loop-top
invariant-loop-top l = IsWalking l.tree.names.now l.tree.winners.now (nexts l.links) l.order.items (map name_of l.open.items)

abbrev pub decreases-loop-top : goal.decreases-loop-top
decreases-loop-top l = measure_of l.tree.names.now l.tree.winners.now (nexts l.links) l.order.items (map name_of l.open.items)
