use Rattle.accel_tables.proofs.Refused.{found_faults}
use Rattle.accel_tables.proofs.law.kinds_of_table_faults.Goals as goal

pub returns : goal.returns
returns c = found_faults
