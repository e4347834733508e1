use Rattle.clone_units.proofs.Asked.{nodes_many, parent_there}
use Rattle.clone_units.proofs.object.ObjectCloneUnitSource.parent.Goals as goal

pub origin_at-requires : goal.origin_at-requires
origin_at-requires c = rw (← c.self.view_is, nodes_many c.self.inside.own.now c.self.inside.images.now c.self.inside.ranges c.self.inside.origins.now c.self.invariant.0) at c.requires

pub returns : goal.returns
returns c n at =
    parent_there c.self.inside.own.now c.self.inside.images.now c.self.inside.ranges c.self.inside.origins.now c.self.invariant.0 c.args.k c.origin_at.result c.origin_at.ensures n (rw (← c.self.view_is) at at)
