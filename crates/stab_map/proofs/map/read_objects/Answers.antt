use Rattle.std.proofs.Common.{refl}
use Rattle.stab_map.specs.DebugMap.{objects_of}
use Rattle.stab_map.proofs.StabPass.{begins}
use Rattle.stab_map.proofs.map.read_objects.Goals as goal

pub loop-index-init : goal.loop-index-init
unfolding objects_of
loop-index-init c = begins _ _ _ _ _ c.in_ok-addresses.ensures c.new-objects.ensures refl
