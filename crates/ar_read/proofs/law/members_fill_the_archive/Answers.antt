use Rattle.ar_read.proofs.Filling.{members_fill}
use Rattle.ar_read.proofs.law.members_fill_the_archive.Goals as goal

pub returns : goal.returns
returns c = members_fill
