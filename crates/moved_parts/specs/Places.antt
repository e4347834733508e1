-- An address of the object with the places to which it went, as an address and as an end.
use Rattle.dwarf_types.specs.declared.address.Addr.{Addr}
use Rattle.dwarf_types.specs.declared.address.Place.{Place}
use Rattle.addr_map.specs.declared.map.AddrMap.{AddrMap}
use Rattle.addr_map.specs.Moved.{moved, moved_end}

abbrev pub place_of : AddrMap → Addr → Place
place_of map at = record { at = at; linked = moved map at; linked_end = moved_end map at }
