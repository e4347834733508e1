use Rattle.macho_read.proofs.Refused.{image_kinds}
use Rattle.macho_read.proofs.law.kinds_of_image_faults.Goals as goal

pub returns : goal.returns
returns c = image_kinds
