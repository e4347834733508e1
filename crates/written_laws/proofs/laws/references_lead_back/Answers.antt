use Rattle.written_laws.proofs.Rising.{led_back}
use Rattle.written_laws.proofs.laws.references_lead_back.Goals as goal

pub returns : goal.returns
returns c = led_back
