use Rattle.list_laws.proofs.Whole.{items_again, items_found}
use Rattle.list_laws.proofs.laws.location_items_are_read_as_spelled.Goals as goal

pub returns : goal.returns
returns c = record {
  found = λ sections relocs image offset version base addresses addr_base given none. items_found sections relocs image offset version base addresses addr_base none given;
  only = λ sections relocs image offset version base addresses addr_base given none. items_again sections relocs image offset version base addresses addr_base none given;
}
