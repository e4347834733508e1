use Rattle.written_laws.proofs.DeclarationTables.{table_stands}
use Rattle.written_laws.proofs.laws.tables_are_spelled_as_written.Goals as goal

pub returns : goal.returns
returns c = table_stands
