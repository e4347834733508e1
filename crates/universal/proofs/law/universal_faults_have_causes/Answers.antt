use Rattle.universal.proofs.Refused.{refusal_has_cause}
use Rattle.universal.proofs.law.universal_faults_have_causes.Goals as goal

pub returns : goal.returns
returns c = refusal_has_cause
