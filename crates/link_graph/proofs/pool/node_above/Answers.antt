use Rattle.std.proofs.Common.{arith, refl}
use Rattle.link_graph.proofs.PoolNodes.{node_above_is}
use Rattle.link_graph.proofs.pool.node_above.Goals as goal

pub returns-in-Some : goal.returns-in-Some
returns-in-Some c =
    let names = c.args.names.now in
    let lower = c.in-Some.ensures.before c.in-Some.p refl in
    let path = c.in-Some.ensures.path in
    node_above_is names c.args.winners.now c.args.nodes.now c.args.x c.in-Some.p path.0 c.requires.nodes (omega (arith, lower, c.requires.within)) path.1
