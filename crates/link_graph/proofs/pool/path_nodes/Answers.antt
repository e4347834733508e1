use Rattle.std.proofs.Common.{ℕ, List, length, ap, arith, subst}
use Rattle.link_graph.specs.PoolOrder.{AreNodesFrom}
use Rattle.link_graph.proofs.Families.{ranked_apart}
use Rattle.link_graph.proofs.PoolNodes.{few_in_order, nodes_are, own_nodes_are}
use Rattle.link_graph.proofs.pool.path_nodes.Goals as goal

pub nodes_of-requires-clause-few : goal.nodes_of-requires-clause-few
nodes_of-requires-clause-few c =
    let names = c.args.names.now in
    let few = few_in_order names c.args.winners.now c.in_ok-order.order.items (ranked_apart names c.requires.ranked) c.in_ok-order.ensures in
    omega (arith, few, c.count.ensures, ap length c.deref.ensures.value)

pub returns : goal.returns
returns c =
    let names = c.args.names.now in
    let winners = c.args.winners.now in
    let order = c.in_ok-order.order.items in
    let nodes = c.in_ok-nodes.nodes.items in
    let apart = ranked_apart names c.requires.ranked in
    let from : AreNodesFrom order nodes (length names) 0 =
    subst (λ (n : ℕ). AreNodesFrom order nodes n 0) c.count.ensures (subst (λ (ws : List ℕ). AreNodesFrom ws nodes c.count.result 0) c.deref.ensures.value c.in_ok-nodes.ensures) in
    record {
      order = c.in_ok-order.ensures;
      few = omega (arith, few_in_order names winners order apart c.in_ok-order.ensures, c.count.ensures);
      nodes = nodes_are names winners order nodes apart c.requires.winners c.in_ok-order.ensures c.in_ok-chains.ensures.linked from;
      len = from.len;
      each = own_nodes_are names winners order nodes apart c.requires.winners c.in_ok-order.ensures c.in_ok-chains.ensures.linked from;
    }
