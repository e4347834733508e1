use Rattle.linked_laws.proofs.Nodes.{base_beside, has_node, has_origin, only_kept}
use Rattle.linked_laws.proofs.laws.written_entries_have_nodes.Goals as goal

pub returns-clause-node : goal.returns-clause-node
returns-clause-node c = λ units image objects i k o e sound it. has_node objects units image i k o e sound it

pub returns-clause-origin : goal.returns-clause-origin
returns-clause-origin c = λ before objects i k o e sound it. has_origin objects before i k o e sound it

pub returns-clause-base : goal.returns-clause-base
returns-clause-base c = λ first objects i k j o e whole it there. base_beside objects first i k j o e whole it there

pub returns-clause-only : goal.returns-clause-only
returns-clause-only c = λ first objects i k target is. only_kept objects first i k target is
