use Rattle.list_laws.proofs.Whole.{ranges_placed}
use Rattle.list_laws.proofs.laws.ranges_at_their_places.Goals as goal

pub returns : goal.returns
returns c graph u unit k node i spans image relocs addresses addr_base well holds none = ranges_placed graph well u unit k node i image relocs addresses addr_base none spans holds
