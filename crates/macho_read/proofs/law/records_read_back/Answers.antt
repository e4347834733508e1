use Rattle.macho_read.proofs.ReadBack.{records_again}
use Rattle.macho_read.proofs.law.records_read_back.Goals as goal

pub returns : goal.returns
returns c = records_again
