use Rattle.loc_lists.proofs.Whole.{locations_whole}
use Rattle.loc_lists.proofs.laws.items_fill_a_location_list.Goals as goal

pub returns : goal.returns
returns c = locations_whole
