-- What the values of an object's units are understood by: where each begins, its version, and where its addresses stand; and the base types of all.
use Rattle.std.specs.Prelude.{ℕ, ◌-◌, ◌==◌, List, map, slice_get, Option, Some, None, if◌then◌else◌}
use Rattle.std.specs.List.{enumerate_from, filter_map}
use Rattle.std.specs.Option.{option_map_or}
use Rattle.ds_base.specs.DwarfNumbers.{DW_TAG_base_type}
use Rattle.dwarf_types.specs.declared.entry.InUnit.{InUnit}
use Rattle.dwarf_types.specs.declared.entry.RawEntry.{RawEntry}
use Rattle.index_tables.specs.Bases.{bases_in}
use Rattle.unit_tree.specs.Header.{header_size}
use Rattle.expr_resolve.specs.declared.context.BaseType.{BaseType}
use Rattle.object_view.specs.declared.units.UnitContext.{UnitContext}

-- a base type among the entries, by its number
abbrev pub base_type_in : ℕ × RawEntry → Option BaseType
base_type_in e = if e.1.tag == DW_TAG_base_type then Some (record { entry = e.0; unit = e.1.unit; place = e.1.place }) else None

-- all base types of an object, in the order of the entries
abbrev pub base_types : List RawEntry → List BaseType
base_types entries = filter_map base_type_in (enumerate_from 0 entries)

-- the place of a unit's first byte: its root stands behind the header; each unit that is read has one, so no case is left to 0
abbrev pub start_of : List RawEntry → InUnit → ℕ
start_of entries unit = option_map_or (λ root. root.place - header_size unit.version) (slice_get entries unit.first) 0

-- the place in `__debug_addr` of a unit's first address, by its root, which is there (DWARF 5, section 3.1.1)
abbrev pub addr_base_of : List RawEntry → InUnit → ℕ
addr_base_of entries unit = option_map_or (λ root. (bases_in root.attrs).addresses) (slice_get entries unit.first) 0

abbrev pub context_of : List RawEntry → InUnit → UnitContext
context_of entries unit = record { version = unit.version; start = start_of entries unit; addr_base = addr_base_of entries unit }

abbrev pub contexts_of : List RawEntry → List InUnit → List UnitContext
contexts_of entries units = map (context_of entries) units

-- what is known of a unit that is not there; no entry is of one
abbrev pub no_unit : UnitContext
no_unit = record { version = 0; start = 0; addr_base = 0 }

-- the context of the unit of a number
abbrev pub unit_context : List InUnit → List RawEntry → ℕ → UnitContext
unit_context units entries unit = option_map_or (context_of entries) (slice_get units unit) no_unit

-- where the unit of a number begins
abbrev pub unit_start : List InUnit → List RawEntry → ℕ → ℕ
unit_start units entries unit = (unit_context units entries unit).start
