use Rattle.written_laws.proofs.UnitTree.{tree_spelled}
use Rattle.written_laws.proofs.laws.entries_are_spelled_as_written.Goals as goal

pub returns : goal.returns
returns c = tree_spelled
