use Rattle.std.proofs.Common.{sym}
use Rattle.link_graph.specs.Graph.{files_of}
use Rattle.clone_units.specs.Sourced.{image_in}
use Rattle.clone_units.proofs.Asked.{pool_many}
use Rattle.clone_units.proofs.pool.PoolCloneUnitSource.len.Goals as goal

pub returns : goal.returns
returns c = rw (← c.self.view_is) (sym (pool_many (image_in c.self.inside.images.now) c.self.inside.seen.now c.self.inside.images.now (files_of c.self.inside.seen.now c.self.inside.origins.now) c.self.inside.origins.now c.self.invariant.0))
