use Rattle.std.proofs.Common.{◌∙◌, arith}
use Rattle.link_graph.proofs.PoolNodes.{units_none, units_some}
use Rattle.link_graph.proofs.pool.units_of.Goals as goal

pub returns-then-count-eq0 : goal.returns-then-count-eq0
returns-then-count-eq0 g c = c.new-units.ensures.items ∙ units_none c.args.names.now (omega (arith, c.if-count-eq0.true, c.count.ensures))

pub returns : goal.returns
returns g c =
    units_some c.args.names.now c.args.merged.now.order.items c.in_ok-nodes.nodes c.new-units.result.items c.push.new.self.items (omega (arith, c.if-count-eq0.false, c.count.ensures)) c.requires.merged.order.whole c.in_ok-nodes.ensures
    c.new-units.ensures.items c.in_ok-push.ensures.items
