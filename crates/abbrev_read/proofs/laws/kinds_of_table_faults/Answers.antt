use Rattle.abbrev_read.proofs.Refused.{table_faults_kinds}
use Rattle.abbrev_read.proofs.laws.kinds_of_table_faults.Goals as goal

pub returns : goal.returns
returns c = table_faults_kinds
