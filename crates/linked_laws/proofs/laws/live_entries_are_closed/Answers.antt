use Rattle.linked_laws.proofs.Live.{live_closed}
use Rattle.linked_laws.proofs.laws.live_entries_are_closed.Goals as goal

pub returns : goal.returns
returns c = live_closed
