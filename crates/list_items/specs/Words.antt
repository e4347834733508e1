-- Reading the two words of an item (DWARF 4, sections 2.17.3 and 2.6.2): what they are, or the first fault.
use Rattle.std.specs.Prelude.{ℕ, ◌-◌, ◌^◌, ◌==◌, ◌&&◌, Result, Ok, if◌then◌else◌}
use Rattle.ds_base.specs.declared.fault.Fault.{Fault}
use Rattle.ds_base.specs.Spot.{Spot}
use Rattle.ds_base.specs.Reading.{◌>>=◌, number_at}
use Rattle.dwarf_types.specs.declared.address.Addr.{Addr}
use Rattle.dwarf_types.specs.declared.lists.RawSpan.{RawSpan}
use Rattle.reloc_table.specs.Address.{address_of}
use Rattle.list_items.specs.declared.item.Item.{Item}
use Rattle.list_items.specs.declared.item.Item.TheVariants as items
use Rattle.list_items.specs.declared.words.Word.{Word}
use Rattle.list_items.specs.Context.{Context}
use Rattle.list_items.specs.Ends.{from_base}
use Rattle.list_items.specs.Items.{span_at}

-- the number in the next eight bytes, and what it means there
unfoldable pub word_at : Context → Spot → Result (Word × Spot) Fault
word_at c s = do
  n ← number_at 8 s
  Ok (record { stored = n.0; means = address_of c.image c.relocs s.place n.0 }, n.1)

-- the span between two words
abbrev pub span_of : Addr → Word → Word → RawSpan
span_of base low high = record { low = from_base base low.means; high = from_base base high.means }

-- "the value of the largest representable address offset", which makes the second word a base
abbrev pub largest_offset : ℕ
largest_offset = 2 ^ 64 - 1

-- what two words are: the stored numbers tell the end and the selection of a base
abbrev pub item_of : Addr → Spot → Word → Word → Result Item Fault
item_of base first low high =
    if low.stored == 0 && high.stored == 0 then Ok items.End
    else if low.stored == largest_offset then Ok (items.Base high.means)
    else span_at first (span_of base low high)

-- the next item of a list that has this base
unfoldable pub words_at : Context → Addr → Spot → Result (Item × Spot) Fault
words_at c base s = do
  low ← word_at c s
  high ← word_at c low.1
  item ← item_of base s low.0 high.0
  Ok (item, high.1)
