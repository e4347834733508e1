use Rattle.table_laws.proofs.Whole.{rows_found}
use Rattle.table_laws.proofs.laws.tables_find_their_rows.Goals as goal

pub returns : goal.returns
returns c = rows_found
