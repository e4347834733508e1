-- The next item of a list, up to what follows its span, or the first fault.
use Rattle.std.specs.Prelude.{Result}
use Rattle.ds_base.specs.declared.fault.Fault.{Fault}
use Rattle.ds_base.specs.Spot.{Spot}
use Rattle.dwarf_types.specs.declared.address.Addr.{Addr}
use Rattle.list_items.specs.declared.context.ListForm.{ListForm}
use Rattle.list_items.specs.declared.context.ListForm.TheVariants as forms
use Rattle.list_items.specs.declared.item.Item.{Item}
use Rattle.list_items.specs.Context.{Context}
use Rattle.list_items.specs.Entries.{entry_at}
use Rattle.list_items.specs.Words.{words_at}

-- an item by the form of its list
abbrev pub formed_at : ListForm → Context → Addr → Spot → Result (Item × Spot) Fault
formed_at forms.Words c base s = words_at c base s
formed_at forms.RangeEntries c base s = entry_at c base s
formed_at forms.LocationEntries c base s = entry_at c base s

-- the next item of a list that has this base
unfoldable pub item_at : Context → Addr → Spot → Result (Item × Spot) Fault
item_at c base s = formed_at c.form c base s
