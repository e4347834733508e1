use Rattle.merged_laws.proofs.Unmerged.{plain_graph}
use Rattle.merged_laws.proofs.laws.nothing_merged_is_linked.Goals as goal

pub returns : goal.returns
returns c = plain_graph
