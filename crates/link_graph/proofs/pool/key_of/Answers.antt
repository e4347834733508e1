use Rattle.link_graph.proofs.pool.key_of.Goals as goal

pub bounds-winners-p : goal.bounds-winners-p
bounds-winners-p c = (c.requires c.in-Some.p c.in-Some.is).0
