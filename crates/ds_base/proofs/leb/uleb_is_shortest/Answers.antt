use Rattle.ds_base.proofs.LebShortest.{uleb_shortest}
use Rattle.ds_base.proofs.leb.uleb_is_shortest.Goals as goal

pub returns : goal.returns
returns c = uleb_shortest
