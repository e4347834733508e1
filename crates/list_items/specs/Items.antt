-- An item that is a span, and what an item covers that gives none.
use Rattle.std.specs.Prelude.{◌^◌, ◌-◌, not, Option, Some, None, Result, Ok}
use Rattle.ds_base.specs.declared.fault.Fault.{Fault}
use Rattle.ds_base.specs.declared.fault.Kind.TheVariants as kinds
use Rattle.ds_base.specs.Spot.{Spot, fault_at}
use Rattle.ds_base.specs.Reading.{◌>>=◌, refuse_if}
use Rattle.dwarf_types.specs.declared.address.Addr.TheVariants as addrs
use Rattle.dwarf_types.specs.declared.lists.RawSpan.{RawSpan}
use Rattle.list_items.specs.declared.item.Item.{Item}
use Rattle.list_items.specs.declared.item.Item.TheVariants as items
use Rattle.list_items.specs.Ends.{belong_together}

-- the item that begins at first, whose ends belong together
abbrev pub span_at : Spot → RawSpan → Result Item Fault
span_at first span = refuse_if (not (belong_together span)) (fault_at first kinds.BadList) >>= λ u. Ok (items.Span span)

-- that of all numbers, of which no part is an address
abbrev pub no_span : RawSpan
no_span = record { low = addrs.Fixed 0; high = addrs.Fixed (2 ^ 64 - 1) }

-- the span of an item, or where it gives none that of all numbers
abbrev pub covered : Option RawSpan → RawSpan
covered None = no_span
covered (Some span) = span
