use Rattle.range_lists.proofs.Spans.{ranges_whole}
use Rattle.range_lists.proofs.laws.items_fill_a_range_list.Goals as goal

pub returns : goal.returns
returns c = ranges_whole
