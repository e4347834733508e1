use Rattle.graph_laws.proofs.Whole.{graph_told}
use Rattle.graph_laws.proofs.laws.sections_tell_their_graph.Goals as goal

pub returns : goal.returns
returns c graph image relocs well readable small none = graph_told graph well readable image relocs none small
