use Rattle.universal.proofs.Refused.{slice_kinds, slices_kinds}
use Rattle.universal.proofs.law.kinds_of_universal_faults.Goals as goal

pub returns-clause-slices : goal.returns-clause-slices
returns-clause-slices c = slices_kinds

pub returns-clause-slice : goal.returns-clause-slice
returns-clause-slice c = slice_kinds
