use Rattle.macho_read.proofs.Refused.{section_kinds}
use Rattle.macho_read.proofs.law.kinds_of_section_faults.Goals as goal

pub returns : goal.returns
returns c = section_kinds
