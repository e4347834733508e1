use Rattle.std.proofs.Common.{◌≤◌, length}
use Rattle.link_graph.specs.PoolOrder.{AreHungFrom, firsts, nexts}
use Rattle.link_graph.proofs.pool.hang_winners.Given as goal

-- the names from this one on have been passed
abbrev pub invariant-loop-x : goal.invariant-loop-x
invariant-loop-x l =
    record {
      within : l.x ≤ length l.names;
      hung : AreHungFrom l.names l.winners l.from l.to l.x (firsts l.chains.items) (nexts l.chains.items);
    }

abbrev pub decreases-loop-x : goal.decreases-loop-x
decreases-loop-x l = l.x
