use Rattle.written_laws.proofs.NodeEntries.{node_stands}
use Rattle.written_laws.proofs.laws.entries_are_the_nodes.Goals as goal

pub returns : goal.returns
returns c = node_stands
