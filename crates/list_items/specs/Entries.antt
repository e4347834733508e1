-- Reading an entry of a list (DWARF 5, sections 2.17.3 and 2.6.2), up to an expression: what it is, or the first fault.
use Rattle.std.specs.Prelude.{ℕ, Option, Result, Ok}
use Rattle.std.specs.Option.{option_map}
use Rattle.ds_base.specs.declared.fault.Fault.{Fault}
use Rattle.ds_base.specs.declared.fault.Kind.TheVariants as kinds
use Rattle.ds_base.specs.Spot.{Spot, fault_at}
use Rattle.ds_base.specs.Reading.{◌>>=◌, or_fault, number_at, uleb_at}
use Rattle.dwarf_types.specs.declared.address.Addr.{Addr}
use Rattle.dwarf_types.specs.Addresses.{plus}
use Rattle.index_tables.specs.Tables.{stored, address_place}
use Rattle.reloc_table.specs.Address.{address_of}
use Rattle.list_items.specs.declared.item.Item.{Item}
use Rattle.list_items.specs.declared.item.Item.TheVariants as items
use Rattle.list_items.specs.declared.kinds.EntryKind.{EntryKind}
use Rattle.list_items.specs.declared.kinds.EntryKind.TheVariants as entries
use Rattle.list_items.specs.Context.{Context}
use Rattle.list_items.specs.EntryKinds.{kind_in}
use Rattle.list_items.specs.Items.{span_at}
use Rattle.list_items.specs.Words.{word_at}

-- ---- the ends

-- the address at an index of the unit's table of addresses
unfoldable pub indexed : Context → ℕ → Option Addr
indexed c index = option_map (λ place. address_of c.image c.addresses place (stored 8 c.sections.addr place)) (address_place c.sections c.addr_base index)

-- an index, in an entry that begins at first
unfoldable pub index_at : Context → Spot → Spot → Result (Addr × Spot) Fault
index_at c first s = do
  index ← uleb_at s
  at ← or_fault (indexed c index.0) (fault_at first kinds.BadIndex)
  Ok (at, index.1)

-- an address of eight bytes
unfoldable pub address_at : Context → Spot → Result (Addr × Spot) Fault
address_at c s = do
  word ← word_at c s
  Ok (word.0.means, word.1)

-- so many bytes behind another address
unfoldable pub offset_at : Addr → Spot → Result (Addr × Spot) Fault
offset_at from s = do
  n ← uleb_at s
  Ok (plus from n.0, n.1)

-- ---- entries

-- a base
abbrev pub selected_at : (Spot → Result (Addr × Spot) Fault) → Spot → Result (Item × Spot) Fault
selected_at base_at s = do
  selected ← base_at s
  Ok (items.Base selected.0, selected.1)

-- the span between two ends, of which the low one stands first, in an entry that begins at first
abbrev pub between : Spot → (Spot → Result (Addr × Spot) Fault) → (Addr → Spot → Result (Addr × Spot) Fault) → Spot → Result (Item × Spot) Fault
between first low_at high_at s = do
  low ← low_at s
  high ← high_at low.0 low.1
  item ← span_at first (record { low = low.0; high = high.0 })
  Ok (item, high.1)

-- what stands behind the kind of an entry that begins at first
unfoldable pub entry_from : Context → Addr → Spot → EntryKind → Spot → Result (Item × Spot) Fault
entry_from c base first entries.EndOfList s = Ok (items.End, s)
entry_from c base first entries.BaseAddressx s = selected_at (index_at c first) s
entry_from c base first entries.StartxEndx s = between first (index_at c first) (λ low. index_at c first) s
entry_from c base first entries.StartxLength s = between first (index_at c first) (λ low. offset_at low) s
entry_from c base first entries.OffsetPair s = between first (offset_at base) (λ low. offset_at base) s
entry_from c base first entries.DefaultLocation s = Ok (items.Default, s)
entry_from c base first entries.BaseAddress s = selected_at (address_at c) s
entry_from c base first entries.StartEnd s = between first (address_at c) (λ low. address_at c) s
entry_from c base first entries.StartLength s = between first (address_at c) (λ low. offset_at low) s

-- the next entry of a list that has this base
unfoldable pub entry_at : Context → Addr → Spot → Result (Item × Spot) Fault
entry_at c base s = do
  code ← number_at 1 s
  kind ← or_fault (kind_in c.form code.0) (fault_at s kinds.UnknownListEntry)
  entry_from c base s kind code.1
