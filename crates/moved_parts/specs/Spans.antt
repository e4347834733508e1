-- Where spans of an object's addresses went (DWARF 4, section 2.17.3).
use Rattle.std.specs.Prelude.{List, []}
use Rattle.std.specs.List.{flat_map}
use Rattle.dwarf_types.specs.declared.address.Addr.{Addr}
use Rattle.dwarf_types.specs.declared.address.Addr.TheVariants as addrs
use Rattle.dwarf_types.specs.declared.address.Span.{Span}
use Rattle.dwarf_types.specs.declared.lists.RawSpan.{RawSpan}
use Rattle.addr_map.specs.declared.map.AddrMap.{AddrMap}
use Rattle.addr_map.specs.Moved.{pieces}

-- the pieces of a span between two addresses of the object; between other ends there is none
abbrev pub pieces_between : AddrMap → Addr → Addr → List Span
pieces_between map (addrs.Placed low) (addrs.Placed high) = pieces map low high
pieces_between map low high = []

abbrev pub span_moved : AddrMap → RawSpan → List Span
span_moved map span = pieces_between map span.low span.high

-- the pieces of each span in order
abbrev pub spans_moved : AddrMap → List RawSpan → List Span
spans_moved map spans = flat_map (span_moved map) spans
