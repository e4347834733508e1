use Rattle.std.proofs.Common.{refl}
use Rattle.sample_objects.proofs.unit.unit_of.Goals as goal

pub returns : goal.returns
returns c = rw (c.in_ok-nodes.ensures, c.new-ranges.ensures) refl
