use Rattle.line_read.proofs.Refused.{version_of_kinds}
use Rattle.line_read.proofs.laws.kinds_of_version_faults.Goals as goal

pub returns : goal.returns
returns c = version_of_kinds
