use Rattle.frame_laws.proofs.Whole.{written_read}
use Rattle.frame_laws.proofs.laws.frames_are_read_as_written.Goals as goal

pub returns : goal.returns
returns c = written_read
