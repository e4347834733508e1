use Rattle.merged_laws.proofs.Nodes.{nodes_there, one_node}
use Rattle.merged_laws.proofs.laws.every_path_has_a_node.Goals as goal

pub returns-clause-node : goal.returns-clause-node
returns-clause-node c = nodes_there

pub returns-clause-one : goal.returns-clause-one
returns-clause-one c = one_node
