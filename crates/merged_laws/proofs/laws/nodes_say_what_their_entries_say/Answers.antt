use Rattle.merged_laws.proofs.Says.{nodes_say}
use Rattle.merged_laws.proofs.laws.nodes_say_what_their_entries_say.Goals as goal

pub returns : goal.returns
returns c = λ odr seen live target origin is entry. nodes_say odr seen live target origin is entry
