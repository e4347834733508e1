use Rattle.frame_table.proofs.Telling.{frames_told}
use Rattle.frame_table.proofs.laws.each_fde_has_its_frame.Goals as goal

pub returns : goal.returns
returns c = frames_told
