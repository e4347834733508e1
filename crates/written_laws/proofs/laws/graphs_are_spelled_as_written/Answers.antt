use Rattle.written_laws.proofs.Units.{graph_spelled}
use Rattle.written_laws.proofs.laws.graphs_are_spelled_as_written.Goals as goal

pub returns : goal.returns
returns c = graph_spelled
