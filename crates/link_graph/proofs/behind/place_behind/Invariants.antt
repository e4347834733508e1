use Rattle.link_graph.proofs.Placed.{AreMovedTo}
use Rattle.link_graph.proofs.behind.place_behind.Given as goal

-- the images so far
abbrev pub invariant-loop-i : goal.invariant-loop-i
invariant-loop-i l = AreMovedTo l.before l.fn.images l.images l.i
