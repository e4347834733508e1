-- Where an address of an object went in the linked program, and where a span of addresses did.
use Rattle.std.specs.Prelude.{ℕ, ◌+◌, ◌-◌, ◌%◌, ◌^◌, ◌==◌, ◌&&◌, min, max, Bool, List, Option, Some, None, nat_lt, nat_le, if◌then◌else◌}
use Rattle.std.specs.Option.{option_map}
use Rattle.std.specs.List.{find, filter_map}
use Rattle.dwarf_types.specs.declared.address.Addr.{Addr}
use Rattle.dwarf_types.specs.declared.address.Addr.TheVariants as addrs
use Rattle.dwarf_types.specs.declared.address.Span.{Span}
use Rattle.addr_map.specs.declared.map.AddrMap.{AddrMap}
use Rattle.addr_map.specs.declared.map.MapRange.{MapRange}

-- an address is in a range
abbrev pub holds : ℕ → MapRange → Bool
holds a r = nat_le r.start a && nat_lt a r.end

-- an end is behind an address of a range
abbrev pub holds_end : ℕ → MapRange → Bool
holds_end a r = nat_lt r.start a && nat_le a r.end

-- where an address, or an end, went by a range
abbrev pub moved_by : ℕ → MapRange → ℕ
moved_by a r = r.linked + (a - r.start)

-- an address goes with the range that holds it, and a symbol to its linked address; all else isn't moved
abbrev pub moved : AddrMap → Addr → Option ℕ
moved map (addrs.Placed a) = option_map (moved_by a) (find (holds a) map.ranges)
moved map (addrs.Named symbol addend) = option_map (λ n. (n.linked + addend) % 2 ^ 64) (find (λ n. n.symbol == symbol) map.names)
moved map (addrs.Fixed n) = None

-- an end goes with the range of the address before it
abbrev pub moved_end : AddrMap → Addr → Option ℕ
moved_end map (addrs.Placed a) = option_map (moved_by a) (find (holds_end a) map.ranges)
moved_end map (addrs.Named symbol addend) = None
moved_end map (addrs.Fixed n) = None

-- what a range holds of a span, moved, where it isn't empty
abbrev pub piece : ℕ → ℕ → MapRange → Option Span
piece low high r =
    if nat_lt (max low r.start) (min high r.end) then Some (record { low = moved_by (max low r.start) r; high = moved_by (min high r.end) r }) else None

-- of each range in order
abbrev pub pieces : AddrMap → ℕ → ℕ → List Span
pieces map low high = filter_map (piece low high) map.ranges
