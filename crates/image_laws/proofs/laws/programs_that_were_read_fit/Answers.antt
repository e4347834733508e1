use Rattle.image_laws.proofs.WereRead.{read_fits}
use Rattle.image_laws.proofs.laws.programs_that_were_read_fit.Goals as goal

pub returns : goal.returns
returns c = read_fits
