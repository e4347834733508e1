-- Stations between the code and the definitions: the contexts of an object's expressions, and what must hold of them.
use Rattle.std.specs.Prelude.{◌≡◌, ℕ, true, ◌+◌, ◌^◌, ◌<◌, ◌≤◌, List, ◌++◌, length, slice_get, slice_set, Option, None, Some, IsSome, IfSome, Result, Ok}
use Rattle.std.specs.List.{All, flat_map}
use Rattle.std.specs.Option.{option_and_then, unwrap_or}
use Rattle.ds_base.specs.declared.fault.Fault.{Fault}
use Rattle.ds_base.specs.Reading.{◌>>=◌}
use Rattle.dwarf_types.specs.declared.address.Addr.{Addr}
use Rattle.dwarf_types.specs.declared.address.Addr.TheVariants as addrs
use Rattle.dwarf_types.specs.declared.entry.Attr.{Attr}
use Rattle.dwarf_types.specs.declared.entry.Entry.{Entry}
use Rattle.dwarf_types.specs.declared.entry.InUnit.{InUnit}
use Rattle.dwarf_types.specs.declared.entry.RawAttr.{RawAttr}
use Rattle.dwarf_types.specs.declared.entry.RawEntry.{RawEntry}
use Rattle.dwarf_types.specs.declared.lists.Location.{Location}
use Rattle.dwarf_types.specs.declared.lists.RawLocation.{RawLocation}
use Rattle.dwarf_types.specs.declared.value.Value.{Value}
use Rattle.dwarf_types.specs.declared.value.Value.TheVariants as values
use Rattle.dwarf_types.specs.SectionBytes.{SectionBytes}
use Rattle.index_tables.specs.Tables.{address_place}
use Rattle.macho_read.specs.Sound.{IsSound as IsSoundImage}
use Rattle.reloc_table.specs.Sound.{IsSound as AreSoundRelocs}
use Rattle.addr_map.specs.declared.map.AddrMap.{AddrMap}
use Rattle.addr_map.specs.Sound.{IsSound as IsSoundMap}
use Rattle.list_items.specs.Sound.{IsSoundSpan}
use Rattle.expr_resolve.specs.Context.{Context, AreInOrder}
use Rattle.object_view.specs.declared.expressions.Expressions.{Expressions}
use Rattle.object_view.specs.declared.units.UnitContext.{UnitContext}
use Rattle.unit_tree.specs.Inside.{IsListInside}
use Rattle.unit_tree.specs.Meaning.{is_address_index, table_of}
use Rattle.object_view.specs.Attributes.{each_of, entry_marked, info_context, item_meant, item_moved, line_place, lines_marked, lines_value, locations_context, number_at, with_value}
use Rattle.object_read.specs.Opened.{Opened}
use Rattle.object_view.specs.Seen.{opened_seen}
use Rattle.reloc_table.specs.Tried.{AreSmall}
use Rattle.object_read.specs.Sound.{AreSound}
use Rattle.object_view.specs.Units.{no_unit}

-- what is known of the unit of a number; entries are of units that are there
abbrev pub context_among : List UnitContext → ℕ → UnitContext
context_among units unit = unwrap_or (slice_get units unit) no_unit

-- an expression of `__debug_info` in a unit, and one of its location lists
abbrev pub info_seen : Expressions → ℕ → Context
info_seen e unit = info_context (opened_seen e.object.now) e.map.now e.types.now unit (context_among e.units.now unit)

abbrev pub locations_seen : Expressions → ℕ → Context
locations_seen e unit = locations_context (opened_seen e.object.now) e.map.now e.types.now unit (context_among e.units.now unit)

-- what a context must keep to
pub record IsReady (s : Context) : Type 0 where
  pub image : IsSoundImage s.image
  pub relocs : AreSoundRelocs s.image s.relocs
  pub addresses : AreSoundRelocs s.image s.addresses
  pub map : IsSoundMap s.map
  pub order : AreInOrder s.bases
  pub small : AreSmall s.sections

-- what an object and its map must keep to
pub record IsOpen (o : Opened) (map : AddrMap) : Type 0 where
  pub sound_image : IsSoundImage o.image
  pub sound_relocs : AreSound o.image o.relocs
  pub sound_map : IsSoundMap map
  pub small : AreSmall o.sections

-- the address from which the lists of the unit of a number count; entries are of units that are there
abbrev pub base_at : List Addr → ℕ → Addr
base_at bases unit = unwrap_or (slice_get bases unit) (addrs.Fixed 0)

-- ---- what an attribute keeps to, so that a step can be taken

-- where what it is goes by its entry's unit
abbrev pub AllAttrs : (ℕ → Attr → Type 0) → List Entry → Type 0
AllAttrs P entries = All (λ e. All (P e.unit) e.attrs) entries

abbrev pub AllRawAttrs : (ℕ → RawAttr → Type 0) → List RawEntry → Type 0
AllRawAttrs P entries = All (λ e. All (P e.unit) e.attrs) entries

-- entries of the first so many units
abbrev pub AreOfUnits : ℕ → List Entry → Type 0
AreOfUnits count entries = All (λ e. e.unit < count) entries

-- as it was read in a unit that is there: its bytes stand before the place behind it, a reference leads to one of these places, and the index of an address to one
abbrev pub IsReadValue : SectionBytes → ℕ → List ℕ → RawAttr → Value → Type 0
IsReadValue sections addr_base places a (values.Address place) = 8 ≤ a.end
IsReadValue sections addr_base places a (values.Block form bytes) = length bytes ≤ a.end
IsReadValue sections addr_base places a (values.Ref place) = IsSome (number_at places place)
IsReadValue sections addr_base places a (values.Offset n) = is_address_index a.form ≡ true → IsSome (address_place sections addr_base n)
IsReadValue sections addr_base places a value = Unit {0}

abbrev pub IsReadAttr : SectionBytes → List UnitContext → List ℕ → ℕ → RawAttr → Type 0
IsReadAttr sections units places unit a = (unit < length units) × IsReadValue sections (context_among units unit).addr_base places a a.value

-- an offset that leads to a list is inside the section of the lists of a version
abbrev pub IsListAttr : SectionBytes → ℕ → Attr → Type 0
IsListAttr sections version a = (n : ℕ) → a.value ≡ values.Offset n → IsListInside sections version (table_of a.name) n

-- so in a unit that is there, by the version of that
abbrev pub IsListedAttr : SectionBytes → List UnitContext → ℕ → Attr → Type 0
IsListedAttr sections units unit a = (unit < length units) × IsListAttr sections (context_among units unit).version a

-- the line table of the unit that begins with an entry of these is inside its section
abbrev pub IsLinesInside : SectionBytes → List Entry → InUnit → Type 0
IsLinesInside sections entries unit = IfSome (option_and_then line_place (slice_get entries unit.first)) (λ n. n < length sections.line)

-- a unit has a first entry, which is one of so many
abbrev pub HasRoot : ℕ → InUnit → Type 0
HasRoot count unit = unit.first < count

-- the first entry of a unit is its root
abbrev pub IsRooted : List RawEntry → InUnit → Type 0
IsRooted entries unit = IfSome (slice_get entries unit.first) (λ e. e.parent ≡ None)

-- ---- line tables

-- marking changes the attribute at a place, the first stmt_list, or no attribute at all
abbrev pub IsFirstList : List Attr → Option ℕ → Type 0
IsFirstList attrs None = lines_marked attrs ≡ attrs
IsFirstList attrs (Some j) = (a : Attr) × (slice_get attrs j ≡ Some a) × (lines_marked attrs ≡ slice_set attrs j (with_value a (lines_value a)))

-- marking makes a line table of the attribute of an entry at a place, or of none
abbrev pub IsMarkedAt : Entry → Option ℕ → Type 0
IsMarkedAt e None = entry_marked e ≡ e
IsMarkedAt e (Some j) = (a : Attr) × (slice_get e.attrs j ≡ Some a) × (entry_marked e ≡ record e { attrs = slice_set e.attrs j (with_value a values.Lines) })

-- ---- items of location lists

-- its expression stands in a section of fewer than 2^32 bytes
pub record IsItem (item : RawLocation) : Type 0 where
  pub span : IsSoundSpan item.span
  pub inside : item.first + length item.bytes < 2 ^ 32

-- the locations of an item behind those before it
abbrev pub item_given : Context → List Location → RawLocation → Result (List Location) Fault
item_given s before item = item_meant s item >>= λ meant. Ok (before ++ item_moved s.map meant)

-- those of some items
abbrev pub items_given : Context → List RawLocation → Result (List Location) Fault
items_given s items = each_of (item_meant s) items >>= λ meant. Ok (flat_map (item_moved s.map) meant)
