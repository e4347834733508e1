use Rattle.list_laws.proofs.Whole.{items_placed, locations_placed}
use Rattle.list_laws.proofs.laws.locations_at_their_places.Goals as goal

pub returns : goal.returns
returns c = record {
  items = λ graph u unit k node i list image relocs addresses addr_base well readable holds none. items_placed graph well u unit k node i image relocs addresses addr_base none readable list holds;
  locations = λ graph u unit k node i list image relocs addresses addr_base well readable holds none. locations_placed graph well u unit k node i image relocs addresses addr_base none readable list holds;
}
