use Rattle.stab_map.proofs.Refused.{map_kinds}
use Rattle.stab_map.proofs.law.kinds_of_map_faults.Goals as goal

pub returns : goal.returns
returns c = map_kinds
