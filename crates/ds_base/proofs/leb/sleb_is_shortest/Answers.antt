use Rattle.ds_base.proofs.LebShortest.{sleb_shortest}
use Rattle.ds_base.proofs.leb.sleb_is_shortest.Goals as goal

pub returns : goal.returns
returns c = sleb_shortest
