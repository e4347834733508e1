use Rattle.list_laws.proofs.Whole.{locations_again, locations_found}
use Rattle.list_laws.proofs.laws.locations_are_read_as_spelled.Goals as goal

pub returns : goal.returns
returns c = record {
  found = λ sections relocs image offset version base addresses addr_base given none. locations_found sections relocs image offset version base addresses addr_base none given;
  only = λ sections relocs image offset version base addresses addr_base given none. locations_again sections relocs image offset version base addresses addr_base none given;
}
