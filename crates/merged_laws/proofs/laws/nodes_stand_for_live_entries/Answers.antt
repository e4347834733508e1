use Rattle.merged_laws.proofs.Stands.{one_of_entry, root_first, stands_for}
use Rattle.merged_laws.proofs.laws.nodes_stand_for_live_entries.Goals as goal

pub returns-clause-live : goal.returns-clause-live
returns-clause-live c = λ odr seen live few sound rows target origin is some. stands_for odr seen live few sound rows target origin is some

pub returns-clause-root : goal.returns-clause-root
returns-clause-root c = λ odr seen live few sound rows target origin is none. root_first odr seen live few sound rows target origin is none

pub returns-clause-one : goal.returns-clause-one
returns-clause-one c = λ odr seen live few sound rows i k a b at_a at_b both.
    one_of_entry odr seen live few sound rows i k a b at_a.origin at_b.origin at_a.stands at_b.stands at_a.counted at_b.counted at_a.its_entry at_b.its_entry both.0 both.1
