use Rattle.universal.proofs.Within.{given_within}
use Rattle.universal.proofs.records.slices.Goals as goal

pub returns-clause-within : goal.returns-clause-within
returns-clause-within c = given_within _ _ c.read_slices.ensures
