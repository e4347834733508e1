use Rattle.frame_laws.proofs.Framed.{spelled_read}
use Rattle.frame_laws.proofs.Taken.{read_spelled}
use Rattle.frame_laws.proofs.laws.frames_are_read_as_spelled.Goals as goal

pub returns : goal.returns
returns c = record { found = read_spelled; only = spelled_read }
