-- How the items of a list of version 5 are spelled, up to an expression, where no relocation stands among them (DWARF 5, sections 2.17.3, 2.6.2, 7.25 and 7.7.3).
use Rattle.std.specs.Prelude.{◌≡◌, ℕ, true, List, [], ◌++◌, Some}
use Rattle.dwarf_types.specs.declared.address.Addr.{Addr}
use Rattle.dwarf_types.specs.declared.address.Addr.TheVariants as addrs
use Rattle.dwarf_types.specs.Addresses.{plus}
use Rattle.dwarf_types.specs.Spelled.{InTurn, IsNumber, IsUleb, Made}
use Rattle.list_items.specs.declared.item.Item.{Item}
use Rattle.list_items.specs.declared.item.Item.TheVariants as items
use Rattle.list_items.specs.declared.kinds.EntryKind.{EntryKind}
use Rattle.list_items.specs.declared.kinds.EntryKind.TheVariants as entries
use Rattle.list_items.specs.Context.{Context}
use Rattle.list_items.specs.Ends.{belong_together}
use Rattle.list_items.specs.Entries.{indexed}
use Rattle.list_items.specs.EntryKinds.{kind_in}

-- ---- the ends

-- an address of eight bytes
abbrev pub SpellsAddress : List ℕ → Addr → Type 0
SpellsAddress = Made (λ n. addrs.Fixed n) (IsNumber 8)

-- so many bytes behind an address
abbrev pub SpellsOffset : Addr → List ℕ → Addr → Type 0
SpellsOffset from = Made (plus from) IsUleb

-- the index of an address that the unit's table has
pub record SpellsIndex (c : Context) (bytes : List ℕ) (at : Addr) : Type 0 where
  pub index : ℕ
  pub spells : IsUleb bytes index
  pub there : indexed c index ≡ Some at

-- ---- entries

-- two ends that belong together: the item is the span between them
pub record SpellsSpan (Low : List ℕ → Addr → Type 0) (High : Addr → List ℕ → Addr → Type 0) (bytes : List ℕ) (item : Item) : Type 0 where
  pub low : Addr
  pub high : Addr
  pub front : List ℕ
  pub back : List ℕ
  pub is : bytes ≡ front ++ back
  pub first : Low front low
  pub second : High low back high
  pub ordered : belong_together (record { low = low; high = high }) ≡ true
  pub span : item ≡ items.Span (record { low = low; high = high })

-- no bytes, which say this
abbrev pub SpellsNothing : Item → List ℕ → Item → Type 0
SpellsNothing what bytes item = (bytes ≡ []) × (item ≡ what)

-- what stands behind the kind of an entry in a list that has this base: a line a kind
abbrev pub SpellsEntry : Context → Addr → EntryKind → List ℕ → Item → Type 0
SpellsEntry c base entries.EndOfList = SpellsNothing items.End
SpellsEntry c base entries.BaseAddressx = Made (λ at. items.Base at) (SpellsIndex c)
SpellsEntry c base entries.StartxEndx = SpellsSpan (SpellsIndex c) (λ low. SpellsIndex c)
SpellsEntry c base entries.StartxLength = SpellsSpan (SpellsIndex c) (λ low. SpellsOffset low)
SpellsEntry c base entries.OffsetPair = SpellsSpan (SpellsOffset base) (λ low. SpellsOffset base)
SpellsEntry c base entries.DefaultLocation = SpellsNothing items.Default
SpellsEntry c base entries.BaseAddress = Made (λ at. items.Base at) SpellsAddress
SpellsEntry c base entries.StartEnd = SpellsSpan SpellsAddress (λ low. SpellsAddress)
SpellsEntry c base entries.StartLength = SpellsSpan SpellsAddress (λ low. SpellsOffset low)

-- an item: a byte that tells its kind, and what stands behind that
pub record SpellsItem (c : Context) (base : Addr) (bytes : List ℕ) (item : Item) : Type 0 where
  pub code : ℕ
  pub kind : EntryKind
  pub known : kind_in c.form code ≡ Some kind
  pub spells : InTurn (λ front. IsNumber 1 front code) (λ back. SpellsEntry c base kind back item) bytes
