use Rattle.frame_table.proofs.Refused.{frame_kinds}
use Rattle.frame_table.proofs.laws.kinds_of_frame_faults.Goals as goal

pub returns : goal.returns
returns c = frame_kinds
