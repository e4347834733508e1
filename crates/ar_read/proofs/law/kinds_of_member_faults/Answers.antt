use Rattle.ar_read.proofs.Refused.{found_member_kinds}
use Rattle.ar_read.proofs.law.kinds_of_member_faults.Goals as goal

pub returns : goal.returns
returns c = found_member_kinds
