use Rattle.macho_read.proofs.ReadBack.{commands_again}
use Rattle.macho_read.proofs.law.commands_read_back.Goals as goal

pub returns : goal.returns
returns c = commands_again
