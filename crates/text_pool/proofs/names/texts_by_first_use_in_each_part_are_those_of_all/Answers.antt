use Rattle.text_pool.proofs.Uses.{once_of_onces}
use Rattle.text_pool.proofs.names.texts_by_first_use_in_each_part_are_those_of_all.Goals as goal

pub returns : goal.returns
returns g c = once_of_onces
