use Rattle.form_value.proofs.Refused.{value_faults}
use Rattle.form_value.proofs.laws.kinds_of_value_faults.Goals as goal

pub returns : goal.returns
returns c = value_faults
