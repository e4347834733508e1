use Rattle.macho_read.proofs.ImageReadBack.{images_again}
use Rattle.macho_read.proofs.law.images_read_back.Goals as goal

pub returns : goal.returns
returns c = images_again
