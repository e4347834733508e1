use Rattle.written_laws.proofs.ReadAgain.{units_again}
use Rattle.written_laws.proofs.laws.units_are_read_as_written.Goals as goal

pub returns : goal.returns
returns c = units_again
