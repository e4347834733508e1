use Rattle.std.proofs.Common.{sym}
use Rattle.clone_units.proofs.Asked.{nodes_many}
use Rattle.clone_units.proofs.object.ObjectCloneUnitSource.len.Goals as goal

pub returns : goal.returns
returns c = rw (← c.self.view_is) (sym (nodes_many c.self.inside.own.now c.self.inside.images.now c.self.inside.ranges c.self.inside.origins.now c.self.invariant.0))
