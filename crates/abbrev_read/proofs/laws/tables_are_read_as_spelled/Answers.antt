use Rattle.abbrev_read.proofs.TableLaws.{table_spelled, table_read}
use Rattle.abbrev_read.proofs.laws.tables_are_read_as_spelled.Goals as goal

pub returns : goal.returns
returns c = record { found = table_spelled; only = table_read }
