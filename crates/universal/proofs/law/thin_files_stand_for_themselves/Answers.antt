use Rattle.universal.proofs.Within.{thin_slice}
use Rattle.universal.proofs.law.thin_files_stand_for_themselves.Goals as goal

pub returns : goal.returns
returns c = thin_slice
