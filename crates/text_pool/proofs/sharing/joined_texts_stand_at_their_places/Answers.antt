use Rattle.text_pool.proofs.Standing.{stands}
use Rattle.text_pool.proofs.sharing.joined_texts_stand_at_their_places.Goals as goal

pub returns : goal.returns
returns c = stands
