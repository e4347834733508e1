use Rattle.range_lists.proofs.Spans.{range_kinds}
use Rattle.range_lists.proofs.laws.kinds_of_range_faults.Goals as goal

pub returns : goal.returns
returns c = range_kinds
