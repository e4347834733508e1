use Rattle.link_graph.specs.PoolOrder.{AreNodesFrom}
use Rattle.link_graph.proofs.pool.nodes_of.Given as goal

-- the places that are done
abbrev pub invariant-loop-i : goal.invariant-loop-i
invariant-loop-i l = AreNodesFrom l.order l.nodes.items l.count l.i

abbrev pub decreases-loop-i : goal.decreases-loop-i
decreases-loop-i l = l.i
