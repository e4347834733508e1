use Rattle.ar_read.proofs.ReadBack.{archives_again}
use Rattle.ar_read.proofs.law.archives_read_back.Goals as goal

pub returns : goal.returns
returns c = archives_again
