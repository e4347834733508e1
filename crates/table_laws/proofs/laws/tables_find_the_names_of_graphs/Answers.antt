use Rattle.table_laws.proofs.Graphs.{graph_found}
use Rattle.table_laws.proofs.laws.tables_find_the_names_of_graphs.Goals as goal

pub returns : goal.returns
returns c = graph_found
