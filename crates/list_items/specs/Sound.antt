-- What each span that a list gives keeps to.
use Rattle.std.specs.Prelude.{◌≡◌, ◌<◌}
use Rattle.dwarf_types.specs.declared.address.Addr.{Addr}
use Rattle.dwarf_types.specs.declared.address.Addr.TheVariants as addrs
use Rattle.dwarf_types.specs.declared.lists.RawSpan.{RawSpan}

-- both are of one class, of one symbol where they are named, and the first is below the second
abbrev pub Rise : Addr → Addr → Type 0
Rise (addrs.Placed low) (addrs.Placed high) = low < high
Rise (addrs.Named symbol low) (addrs.Named other high) = (symbol ≡ other) × (low < high)
Rise (addrs.Fixed low) (addrs.Fixed high) = low < high
Rise low high = ⊥

-- its ends rise
abbrev pub IsSoundSpan : RawSpan → Type 0
IsSoundSpan span = Rise span.low span.high
