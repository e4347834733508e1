use Rattle.std.proofs.Common.{◌∙◌}
use Rattle.std.proofs.lemmas.Result.{IfOk-weaker}
use Rattle.clone_units.proofs.Asked.{entry_there, node_there, nodes_many}
use Rattle.clone_units.proofs.object.ObjectCloneUnitSource.node.Goals as goal

pub origin_at-origin-requires : goal.origin_at-origin-requires
origin_at-origin-requires c = rw (← c.self.view_is, nodes_many c.self.inside.own.now c.self.inside.images.now c.self.inside.ranges c.self.inside.origins.now c.self.invariant.0) at c.requires

pub node_of-requires-clause-stands : goal.node_of-requires-clause-stands
node_of-requires-clause-stands c = entry_there c.self.inside.own.now c.self.inside.images.now c.self.inside.ranges c.self.inside.origins.now c.self.invariant.0 c.args.k c.origin_at-origin.result c.origin_at-origin.ensures

pub returns : goal.returns
returns c =
    let there = node_there c.self.inside.own.now c.self.inside.images.now c.self.inside.ranges c.self.inside.origins.now c.self.invariant.0 c.args.k c.origin_at-origin.result c.origin_at-origin.ensures in
    rw (← c.self.view_is) (IfOk-weaker c.node_of.result _ _ (λ head is. there ∙ rw c.as_slice-spans.ensures at is) c.node_of.ensures)
