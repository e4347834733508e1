use Rattle.std.proofs.Common.{◌-◌, length, arith}
use Rattle.linked_laws.proofs.Places.{node_of_one}
use Rattle.linked_laws.proofs.laws.nodes_stand_for_written_entries.Goals as goal

pub returns : goal.returns
returns c = λ before objects target origin sound behind is. node_of_one objects before sound (target.unit - length before) target origin (omega (arith, behind)) is
