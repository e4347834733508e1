use Rattle.unit_tree.proofs.Alone.{alone_behind}
use Rattle.unit_tree.proofs.laws.units_are_read_alone.Goals as goal

pub returns : goal.returns
returns c = alone_behind
