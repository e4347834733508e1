use Rattle.link_graph.specs.Graph.{files_of}
use Rattle.clone_units.specs.Sourced.{image_in}
use Rattle.clone_units.proofs.Asked.{pool_many, pool_parent, root_parent}
use Rattle.clone_units.proofs.pool.PoolCloneUnitSource.parent.Goals as goal

pub origin_at-origin-requires : goal.origin_at-origin-requires
origin_at-origin-requires c = rw (← c.self.view_is, pool_many (image_in c.self.inside.images.now) c.self.inside.seen.now c.self.inside.images.now (files_of c.self.inside.seen.now c.self.inside.origins.now) c.self.inside.origins.now c.self.invariant.0) at c.requires

pub returns-then-k-eq0 : goal.returns-then-k-eq0
returns-then-k-eq0 c n at =
    root_parent (image_in c.self.inside.images.now) c.self.inside.seen.now c.self.inside.images.now (files_of c.self.inside.seen.now c.self.inside.origins.now) c.self.inside.origins.now c.self.invariant.0 c.args.k n c.if-k-eq0.true (rw (← c.self.view_is) at at)

pub returns : goal.returns
returns c n at =
    pool_parent (image_in c.self.inside.images.now) c.self.inside.seen.now c.self.inside.images.now (files_of c.self.inside.seen.now c.self.inside.origins.now) c.self.inside.origins.now c.self.invariant.0 c.args.k c.origin_at-origin.result n c.if-k-eq0.false c.origin_at-origin.ensures (rw (← c.self.view_is) at at)
