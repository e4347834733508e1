use Rattle.macho_read.proofs.Refused.{role_kinds}
use Rattle.macho_read.proofs.law.kinds_of_role_faults.Goals as goal

pub returns : goal.returns
returns c = role_kinds
