use Rattle.table_laws.proofs.Whole.{pairs_found}
use Rattle.table_laws.proofs.laws.tables_find_what_is_entered.Goals as goal

pub returns : goal.returns
returns c = pairs_found
