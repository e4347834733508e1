use Rattle.std.proofs.Common.{length, refl}
use Rattle.list_laws.proofs.Whole.{items_written, locations_written}
use Rattle.list_laws.proofs.laws.locations_are_read_as_written.Goals as goal

pub returns : goal.returns
returns c = record {
  items = λ sections relocs image version addresses addr_base node list front more none all which are is.
      items_written sections relocs image version addresses addr_base none (length front) node list all which are (record { front = front; more = more; is = is; there = refl });
  locations = λ sections relocs image version addresses addr_base node list front more none all which are is.
      locations_written sections relocs image version addresses addr_base none (length front) node list all which are (record { front = front; more = more; is = is; there = refl });
}
