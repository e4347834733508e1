-- The attributes of an object's entries with what their values mean, step by step: each step goes over all attributes in document order.
use Rattle.std.specs.Prelude.{ℕ, ◌-◌, ◌^◌, ◌==◌, ◌&&◌, Bool, not, List, [], ◌∷◌, length, map, slice_get, Option, Some, None, is_none, is_some, Result, Ok, nat_lt, if◌then◌else◌}
use Rattle.std.specs.List.{filter_map, find, flat_map}
use Rattle.std.specs.Option.{option_and_then, option_map, option_map_or, unwrap_or}
use Rattle.ds_base.specs.DwarfNumbers.{DW_AT_comp_dir, DW_AT_low_pc, DW_AT_stmt_list, DW_FORM_exprloc, DW_FORM_sec_offset}
use Rattle.ds_base.specs.declared.fault.Fault.{Fault}
use Rattle.ds_base.specs.declared.fault.Kind.TheVariants as kinds
use Rattle.ds_base.specs.declared.fault.Part.{Part}
use Rattle.ds_base.specs.declared.fault.Part.TheVariants as parts
use Rattle.ds_base.specs.Reading.{◌>>=◌, or_fault, refuse_if}
use Rattle.dwarf_types.specs.declared.address.Addr.{Addr}
use Rattle.dwarf_types.specs.declared.address.Addr.TheVariants as addrs
use Rattle.dwarf_types.specs.declared.address.Place.{Place}
use Rattle.dwarf_types.specs.declared.entry.Attr.{Attr}
use Rattle.dwarf_types.specs.declared.entry.Entry.{Entry}
use Rattle.dwarf_types.specs.declared.entry.InUnit.{InUnit}
use Rattle.dwarf_types.specs.declared.entry.RawAttr.{RawAttr}
use Rattle.dwarf_types.specs.declared.entry.RawEntry.{RawEntry}
use Rattle.dwarf_types.specs.declared.entry.RawUnits.{RawUnits}
use Rattle.dwarf_types.specs.declared.expr.Op.{Op}
use Rattle.dwarf_types.specs.declared.lines.OutLines.{OutLines}
use Rattle.dwarf_types.specs.declared.lists.Location.{Location}
use Rattle.dwarf_types.specs.declared.lists.RawLocation.{RawLocation}
use Rattle.dwarf_types.specs.declared.lists.RawSpan.{RawSpan}
use Rattle.dwarf_types.specs.declared.value.Value.{Value}
use Rattle.dwarf_types.specs.declared.value.Value.TheVariants as values
use Rattle.dwarf_types.specs.Moves.{place_in, value_of}
use Rattle.dwarf_types.specs.Raw.{entry_of, places_of}
use Rattle.reloc_table.specs.declared.relocation.Relocs.{Relocs}
use Rattle.reloc_table.specs.Address.{address_of}
use Rattle.addr_map.specs.declared.map.AddrMap.{AddrMap}
use Rattle.index_tables.specs.Tables.{address_place, stored}
use Rattle.expr_walk.specs.Length.{ops_len}
use Rattle.dwarf_types.specs.Addresses.{number_of}
use Rattle.line_read.specs.Counting.{lines_as}
use Rattle.line_read.specs.Header.{version_of}
use Rattle.line_read.specs.Program.{lines_of}
use Rattle.loc_lists.specs.Reading.{location_part, locations_of}
use Rattle.range_lists.specs.Reading.{ranges_of}
use Rattle.expr_resolve.specs.declared.context.BaseType.{BaseType}
use Rattle.expr_resolve.specs.Context.{Context}
use Rattle.expr_resolve.specs.Expressions.{expression_of}
use Rattle.unit_tree.specs.declared.meaning.Meaning.{Meaning}
use Rattle.unit_tree.specs.declared.meaning.Meaning.TheVariants as meanings
use Rattle.unit_tree.specs.Meaning.{is_address_index, table_of}
pub use Rattle.unit_tree.specs.Targets.{number_at}
use Rattle.moved_parts.specs.Lines.{lines_moved}
use Rattle.moved_parts.specs.Places.{place_of}
use Rattle.moved_parts.specs.Spans.{span_moved, spans_moved}
use Rattle.object_read.specs.declared.open.DebugRelocs.{DebugRelocs}
use Rattle.ds_base.specs.DwarfNumbers.{DWARF_5}
use Rattle.object_view.specs.declared.units.UnitContext.{UnitContext}
use Rattle.object_read.specs.Opened.{Opened}
use Rattle.object_view.specs.Units.{base_types, unit_context}

-- ---- steps over all attributes

-- each of some items, or the first fault in their order
abbrev pub each_of : {A B : Type 0} → (A → Result B Fault) → List A → Result (List B) Fault
each_of meant [] = Ok []
each_of meant (x ∷ xs) = do
  here ← meant x
  others ← each_of meant xs
  Ok (here ∷ others)

-- another value for each attribute of an entry
abbrev pub with_value : Attr → Value → Attr
with_value a value = record a { value = value }

abbrev pub attr_by : (Attr → Result Value Fault) → Attr → Result Attr Fault
attr_by meant a = meant a >>= λ value. Ok (with_value a value)

abbrev pub attrs_by : (Attr → Result Value Fault) → List Attr → Result (List Attr) Fault
attrs_by meant attrs = each_of (attr_by meant) attrs

abbrev pub entry_by : (Attr → Result Value Fault) → Entry → Result Entry Fault
entry_by meant e = attrs_by meant e.attrs >>= λ attrs. Ok (record e { attrs = attrs })

-- the same of all entries, where what an attribute means goes by its entry's unit
abbrev pub entries_by : (ℕ → Attr → Result Value Fault) → List Entry → Result (List Entry) Fault
entries_by meant entries = each_of (λ e. entry_by (meant e.unit) e) entries

-- the same of attributes and entries as they are read
abbrev pub raw_attr_by : (RawAttr → Result Value Fault) → RawAttr → Result RawAttr Fault
raw_attr_by meant a = meant a >>= λ value. Ok (record a { value = value })

abbrev pub raw_attrs_by : (RawAttr → Result Value Fault) → List RawAttr → Result (List RawAttr) Fault
raw_attrs_by meant attrs = each_of (raw_attr_by meant) attrs

abbrev pub raw_entry_by : (RawAttr → Result Value Fault) → RawEntry → Result RawEntry Fault
raw_entry_by meant e = raw_attrs_by meant e.attrs >>= λ attrs. Ok (record e { attrs = attrs })

abbrev pub raw_entries_by : (ℕ → RawAttr → Result Value Fault) → List RawEntry → Result (List RawEntry) Fault
raw_entries_by meant entries = each_of (λ e. raw_entry_by (meant e.unit) e) entries

-- ---- addresses, references and expressions

-- a field of eight bytes that ends at a place of `__debug_info`
abbrev pub field_address : Context → ℕ → Addr → Addr
field_address s end stored = address_of s.image s.relocs (end - 8) (number_of stored)

-- a reference that leads to no entry; units in which one stands are refused before, so it is never met here
abbrev pub dangling : RawAttr → Fault
dangling a = record { kind = kinds.BadReference; section = parts.Info; place = a.end }

-- the address at an index of the unit's table of addresses (DWARF 5, section 7.27)
abbrev pub address_named : Context → ℕ → Option Place
address_named s index = option_map (λ place. place_of s.map (address_of s.image s.addresses place (stored 8 s.sections.addr place))) (address_place s.sections s.addr_base index)

-- an index outside of its table; units in which one stands are refused before, so it is never met here
abbrev pub unnamed : RawAttr → Fault
unnamed a = record { kind = kinds.BadIndex; section = parts.Info; place = a.end }

-- an offset or an index
abbrev pub offset_meant : Context → RawAttr → ℕ → Result Value Fault
offset_meant s a n = if is_address_index a.form then (or_fault (address_named s n) (unnamed a) >>= λ place. Ok (values.Address place)) else Ok (values.Offset n)

-- a value as it was read, in a context of `__debug_info`
abbrev pub value_meant : Context → List ℕ → RawAttr → Value → Result Value Fault
value_meant s places a (values.Address place) = Ok (values.Address (place_of s.map (field_address s a.end place.at)))
value_meant s places a (values.Ref place) = or_fault (number_at places place) (dangling a) >>= λ k. Ok (values.Ref k)
value_meant s places a (values.Block form bytes) =
    if form == DW_FORM_exprloc then (expression_of s bytes (a.end - length bytes) >>= λ ops. Ok (values.Expr ops)) else Ok (values.Block form bytes)
value_meant s places a (values.Offset n) = offset_meant s a n
value_meant s places a value = Ok value

-- what an expression is understood by that stands in a part of the file, in the unit of a number
abbrev pub context_at : Opened → AddrMap → List BaseType → Part → Relocs → ℕ → UnitContext → Context
context_at o map types part relocs unit u = record {
  image = o.image;
  map = map;
  bases = types;
  part = part;
  relocs = relocs;
  unit = unit;
  start = u.start;
  version = u.version;
  sections = o.sections;
  addresses = o.relocs.addr;
  addr_base = u.addr_base;
}

-- one of `__debug_info`
abbrev pub info_context : Opened → AddrMap → List BaseType → ℕ → UnitContext → Context
info_context o map types unit u = context_at o map types parts.Info o.relocs.info unit u

-- the step over attributes of `__debug_info`, by the units and entries that were read
abbrev pub info_step : Opened → AddrMap → RawUnits → ℕ → RawAttr → Result Value Fault
info_step o map raw unit a = value_meant (info_context o map (base_types raw.entries) unit (unit_context raw.units raw.entries unit)) (places_of raw.entries) a a.value

-- all entries, with moved addresses, numbers of entries, and operations, and without the places of their values
abbrev pub entries_meant : Opened → AddrMap → RawUnits → Result (List Entry) Fault
entries_meant o m raw = raw_entries_by (info_step o m raw) raw.entries >>= λ meant. Ok (map entry_of meant)

-- ---- line tables

abbrev pub offset_in : Value → Option ℕ
offset_in (values.Offset n) = Some n
offset_in _ = None

-- a section offset; the index of a list is none
abbrev pub section_offset : Attr → Option ℕ
section_offset a = if a.form == DW_FORM_sec_offset then offset_in a.value else None

-- the place of a unit's line table, which its root's first stmt_list tells where it is a section offset
abbrev pub line_place : Entry → Option ℕ
line_place root = option_and_then section_offset (find (λ a. a.name == DW_AT_stmt_list) root.attrs)

-- the directory in which a unit was compiled, empty where its root tells none
abbrev pub text_in : Value → List ℕ
text_in (values.Text text) = text
text_in _ = []

abbrev pub comp_dir : Entry → List ℕ
comp_dir root = option_map_or text_in (value_of DW_AT_comp_dir root) []

-- the line table at a place, of a unit of a version that was compiled in a directory
abbrev pub lines_meant : Opened → AddrMap → ℕ → List ℕ → ℕ → Result OutLines Fault
lines_meant o map version dir place = do
  table ← version_of o.sections version place
  lines ← lines_of o.image o.relocs.line o.sections version place
  Ok (lines_moved map (lines_as version table dir lines))

-- a unit with the line table that its root names, if there is one
abbrev pub unit_with_table : Opened → AddrMap → InUnit → List ℕ → Option ℕ → Result InUnit Fault
unit_with_table o map unit dir None = Ok unit
unit_with_table o map unit dir (Some place) = lines_meant o map unit.version dir place >>= λ lines. Ok (record unit { lines = Some lines })

abbrev pub unit_with_lines : Opened → AddrMap → List Entry → InUnit → Result InUnit Fault
unit_with_lines o map entries unit =
    let root = slice_get entries unit.first in unit_with_table o map unit (option_map_or comp_dir root []) (option_and_then line_place root)

-- all units
abbrev pub units_meant : Opened → AddrMap → List Entry → List InUnit → Result (List InUnit) Fault
units_meant o map entries units = each_of (unit_with_lines o map entries) units

abbrev pub lines_value : Attr → Value
lines_value a = if is_some (section_offset a) then values.Lines else a.value

-- the first stmt_list of some attributes is the unit's line table, where it is a section offset
abbrev pub lines_marked : List Attr → List Attr
lines_marked [] = []
lines_marked (a ∷ attrs) = if a.name == DW_AT_stmt_list then with_value a (lines_value a) ∷ attrs else a ∷ lines_marked attrs

-- that of roots alone
abbrev pub entry_marked : Entry → Entry
entry_marked e = if is_none e.parent then record e { attrs = lines_marked e.attrs } else e

abbrev pub all_marked : List Entry → List Entry
all_marked entries = map entry_marked entries

-- ---- range lists

-- "The base address is the unit's": the first low_pc of class address of its root, else 0
abbrev pub low_pc_in : Attr → Option Addr
low_pc_in a = if a.name == DW_AT_low_pc then option_and_then (λ place. Some place.at) (place_in a.value) else None

abbrev pub base_of : Entry → Addr
base_of root = unwrap_or (slice_get (filter_map low_pc_in root.attrs) 0) (addrs.Fixed 0)

-- the base of the unit of a number
abbrev pub unit_base : List InUnit → List Entry → ℕ → Addr
unit_base units entries unit = option_map_or base_of (option_and_then (λ u. slice_get entries u.first) (slice_get units unit)) (addrs.Fixed 0)

-- the relocations of the section in which the range lists of a version stand
abbrev pub ranges_relocs : DebugRelocs → ℕ → Relocs
ranges_relocs relocs version = if version == DWARF_5 then relocs.rnglists else relocs.ranges

-- the range list at a place, as it is read
abbrev pub ranges_read : Opened → UnitContext → Addr → ℕ → Result (List RawSpan) Fault
ranges_read o u base place = ranges_of o.sections (ranges_relocs o.relocs u.version) o.image place u.version base o.relocs.addr u.addr_base

-- the same, moved
abbrev pub ranges_at : Opened → AddrMap → UnitContext → Addr → ℕ → Result Value Fault
ranges_at o map u base place = ranges_read o u base place >>= λ spans. Ok (values.Ranges (spans_moved map spans))

-- an offset that leads to a range list, by its attribute
abbrev pub ranges_by_role : Opened → AddrMap → UnitContext → Addr → Meaning → ℕ → Result Value Fault
ranges_by_role o map u base meanings.RangeList place = ranges_at o map u base place
ranges_by_role o map u base role place = Ok (values.Offset place)

abbrev pub ranges_meant : Opened → AddrMap → UnitContext → Addr → Attr → Value → Result Value Fault
ranges_meant o map u base a (values.Offset place) = ranges_by_role o map u base (table_of a.name) place
ranges_meant o map u base a value = Ok value

-- the step over attributes that may name range lists, by entries that are understood
abbrev pub ranges_step : Opened → AddrMap → RawUnits → List Entry → ℕ → Attr → Result Value Fault
ranges_step o map raw meant unit a = ranges_meant o map (unit_context raw.units raw.entries unit) (unit_base raw.units meant unit) a a.value

-- ---- location lists

-- the relocations of the section in which the location lists of a version stand
abbrev pub locations_relocs : DebugRelocs → ℕ → Relocs
locations_relocs relocs version = if version == DWARF_5 then relocs.loclists else relocs.loc

-- what an expression of a location list is understood by
abbrev pub locations_context : Opened → AddrMap → List BaseType → ℕ → UnitContext → Context
locations_context o map types unit u = context_at o map types (location_part u.version) (locations_relocs o.relocs u.version) unit u

-- the expression of an item is too long for the two bytes of its length in the output, which items have before version 5
abbrev pub is_too_long : ℕ → List Op → Bool
is_too_long version ops = not (version == DWARF_5) && not (nat_lt (ops_len ops) (2 ^ 16))

-- the operations of an item
abbrev pub item_meant : Context → RawLocation → Result (RawLocation × List Op) Fault
item_meant s item = do
  ops ← expression_of s item.bytes item.first
  _ ← refuse_if (is_too_long s.version ops) (record { kind = kinds.LongExpression; section = s.part; place = item.place })
  Ok (item, ops)

-- the pieces of an item's span, each with its operations
abbrev pub item_moved : AddrMap → RawLocation × List Op → List Location
item_moved m item = map (λ span. record { span = span; ops = item.1 }) (span_moved m item.0.span)

-- the location list at a place, as it is read in a context of its section
abbrev pub locations_read : Context → Addr → ℕ → Result (List RawLocation) Fault
locations_read s base place = locations_of s.sections s.relocs s.image place s.version base s.addresses s.addr_base

-- the same, moved: first the whole list, then item after item
abbrev pub locations_at : Context → Addr → ℕ → Result Value Fault
locations_at s base place = do
  items ← locations_read s base place
  meant ← each_of (item_meant s) items
  Ok (values.Locations (flat_map (item_moved s.map) meant))

abbrev pub locations_by_role : Context → Addr → Meaning → ℕ → Result Value Fault
locations_by_role s base meanings.LocationList place = locations_at s base place
locations_by_role s base role place = Ok (values.Offset place)

abbrev pub locations_meant : Context → Addr → Attr → Value → Result Value Fault
locations_meant s base a (values.Offset place) = locations_by_role s base (table_of a.name) place
locations_meant s base a value = Ok value

-- the step over attributes that may name location lists, by entries that are understood
abbrev pub locations_step : Opened → AddrMap → RawUnits → List Entry → ℕ → Attr → Result Value Fault
locations_step o map raw meant unit a =
    locations_meant (locations_context o map (base_types raw.entries) unit (unit_context raw.units raw.entries unit)) (unit_base raw.units meant unit) a a.value
