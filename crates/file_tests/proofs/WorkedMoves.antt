-- The address map of the object, and where its addresses went.
use Rattle.std.proofs.Common.{◌≡◌, ℕ, [], ◌∷◌, Option, Some, None, refl}
use Rattle.dwarf_types.specs.declared.address.Addr.{Addr}
use Rattle.dwarf_types.specs.declared.address.Addr.TheVariants as addrs
use Rattle.macho_read.specs.Standings.{standing_of}
use Rattle.addr_map.specs.declared.map.AddrMap.{AddrMap}
use Rattle.addr_map.specs.Moved.{moved, moved_end, pieces}
use Rattle.addr_map.specs.Ranges.{map_of}
use Rattle.file_tests.proofs.Images.{object}
use Rattle.file_tests.proofs.WorkedMaps.{mapped}

-- the function `_a`, and the common symbol `a`
abbrev map : AddrMap
map = record { ranges = record { start = 0x20; end = 0x40; linked = 0x100002000 } ∷ []; names = record { symbol = 1; linked = 0x100008010 } ∷ [] }

the_map : map_of mapped object ≡ map
unfolding map_of standing_of
the_map = refl

-- where an address goes, and where it goes as the end of a range
abbrev goes : Addr → Option ℕ × Option ℕ
goes at = (moved map at, moved_end map at)

the_first_address : goes (addrs.Placed 0x20) ≡ (Some 0x100002000, None)
the_first_address = refl

the_last_address : goes (addrs.Placed 0x3f) ≡ (Some 0x10000201f, Some 0x10000201f)
the_last_address = refl

the_end : goes (addrs.Placed 0x40) ≡ (None, Some 0x100002020)
the_end = refl

a_symbol : goes (addrs.Named 1 0) ≡ (Some 0x100008010, None)
a_symbol = refl

a_symbol_that_did_not_go : goes (addrs.Named 0 0) ≡ (None, None)
a_symbol_that_did_not_go = refl

a_number : goes (addrs.Fixed 0x20) ≡ (None, None)
a_number = refl

-- a span that begins before the range has one piece of it
a_span : pieces map 0x18 0x30 ≡ record { low = 0x100002000; high = 0x100002010 } ∷ []
a_span = refl
