-- The ends of the spans of a list (DWARF 4, sections 2.17.3 and 2.6.2).
use Rattle.std.specs.Prelude.{◌==◌, ◌&&◌, Bool, true, false, nat_le}
use Rattle.dwarf_types.specs.declared.address.Addr.{Addr}
use Rattle.dwarf_types.specs.declared.address.Addr.TheVariants as addrs
use Rattle.dwarf_types.specs.declared.lists.RawSpan.{RawSpan}
use Rattle.dwarf_types.specs.Addresses.{plus, number_of}

-- an end that is a number alone counts from the base; all others stand as they are
unfoldable pub from_base : Addr → Addr → Addr
from_base base (addrs.Fixed n) = plus base n
from_base base end = end

-- both are addresses of the object, both count from one symbol, or both are numbers alone
abbrev pub are_of_one_class : Addr → Addr → Bool
are_of_one_class (addrs.Placed low) (addrs.Placed high) = true
are_of_one_class (addrs.Named symbol low) (addrs.Named other high) = symbol == other
are_of_one_class (addrs.Fixed low) (addrs.Fixed high) = true
are_of_one_class low high = false

-- the ends are of one class, and the low one is not above the high one
unfoldable pub belong_together : RawSpan → Bool
belong_together span = are_of_one_class span.low span.high && nat_le (number_of span.low) (number_of span.high)

-- the ends are equal
unfoldable pub is_empty : RawSpan → Bool
is_empty span = are_of_one_class span.low span.high && number_of span.low == number_of span.high
