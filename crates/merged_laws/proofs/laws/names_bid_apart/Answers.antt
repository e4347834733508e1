use Rattle.merged_laws.proofs.Nodes.{bids_apart, bids_some}
use Rattle.merged_laws.proofs.Winners.{winners_same}
use Rattle.merged_laws.proofs.laws.names_bid_apart.Goals as goal

pub returns-clause-apart : goal.returns-clause-apart
returns-clause-apart c = bids_apart

pub returns-clause-low : goal.returns-clause-low
returns-clause-low c = bids_some

pub returns-clause-winners : goal.returns-clause-winners
returns-clause-winners c = λ names winners others apart a b. winners_same names apart winners others a b
