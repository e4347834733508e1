use Rattle.written_laws.proofs.Led.{written_again}
use Rattle.written_laws.proofs.laws.units_of_images_are_read_as_written.Goals as goal

pub returns : goal.returns
returns c = written_again
