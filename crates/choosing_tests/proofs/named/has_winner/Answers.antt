use Rattle.choosing_tests.proofs.OneObject.{live_rows}
use Rattle.choosing_tests.proofs.named.has_winner.Goals as goal

pub book-requires-clause-live : goal.book-requires-clause-live
book-requires-clause-live g c = live_rows _ _ _ _ c.from_ref-seen.ensures.value c.from_ref-live.ensures.value c.requires.live
