-- Stations between the code and the definition of an analysis: its last steps, over lists that are made once.
use Rattle.std.specs.Prelude.{ℕ, List, map, slice_get, Result, Ok}
use Rattle.std.specs.Option.{option_map_or}
use Rattle.ds_base.specs.declared.fault.Fault.{Fault}
use Rattle.ds_base.specs.Reading.{◌>>=◌}
use Rattle.dwarf_types.specs.declared.address.Addr.{Addr}
use Rattle.dwarf_types.specs.declared.address.Addr.TheVariants as addrs
use Rattle.dwarf_types.specs.declared.analysis.Analysis.{Analysis}
use Rattle.dwarf_types.specs.declared.analysis.CodeRange.{CodeRange}
use Rattle.dwarf_types.specs.declared.entry.Attr.{Attr}
use Rattle.dwarf_types.specs.declared.entry.Entry.{Entry}
use Rattle.dwarf_types.specs.declared.entry.InUnit.{InUnit}
use Rattle.dwarf_types.specs.declared.entry.RawAttr.{RawAttr}
use Rattle.dwarf_types.specs.declared.entry.RawEntry.{RawEntry}
use Rattle.dwarf_types.specs.declared.entry.RawUnits.{RawUnits}
use Rattle.dwarf_types.specs.declared.frames.OutFrame.{OutFrame}
use Rattle.dwarf_types.specs.declared.value.Value.{Value}
use Rattle.dwarf_types.specs.Raw.{entry_of, places_of}
use Rattle.addr_map.specs.declared.map.AddrMap.{AddrMap}
use Rattle.frame_table.specs.Frames.{frames_of}
use Rattle.moved_parts.specs.Frames.{frames_moved}
use Rattle.expr_resolve.specs.declared.context.BaseType.{BaseType}
use Rattle.object_view.specs.Attributes.{all_marked, base_of, entries_by, info_context, locations_context, locations_meant, ranges_meant, raw_entries_by, units_meant, value_meant}
use Rattle.object_view.specs.Code.{code_of}
use Rattle.object_read.specs.Opened.{Opened}
use Rattle.object_view.specs.Ready.{base_at, context_among}
use Rattle.object_view.specs.Units.{base_types, contexts_of}
use Rattle.object_view.specs.declared.units.Tables.{Tables}
use Rattle.object_view.specs.declared.units.UnitContext.{UnitContext}

-- what is made of units and entries once
pub record MadeOnce : Type 0 where
  pub types : List BaseType
  pub units : List UnitContext

abbrev pub tables_in : Tables → MadeOnce
tables_in t = record { types = t.types.now; units = t.units.now }

abbrev pub made_of : List InUnit → List RawEntry → MadeOnce
made_of units entries = record { types = base_types entries; units = contexts_of entries units }

-- an attribute of `__debug_info`, among entries at these places
abbrev pub info_meant : Opened → AddrMap → MadeOnce → List ℕ → ℕ → RawAttr → Result Value Fault
info_meant o m t places unit a = value_meant (info_context o m t.types unit (context_among t.units unit)) places a a.value

-- entries as they are read, understood
abbrev pub info_done : Opened → AddrMap → MadeOnce → List RawEntry → Result (List Entry) Fault
info_done o m t raw = raw_entries_by (info_meant o m t (places_of raw)) raw >>= λ meant. Ok (map entry_of meant)

-- attributes that may name a range list, and then those that may name a location list
abbrev pub range_meant : Opened → AddrMap → MadeOnce → List Addr → ℕ → Attr → Result Value Fault
range_meant o m t bases unit a = ranges_meant o m (context_among t.units unit) (base_at bases unit) a a.value

abbrev pub location_meant : Opened → AddrMap → MadeOnce → List Addr → ℕ → Attr → Result Value Fault
location_meant o m t bases unit a = locations_meant (locations_context o m t.types unit (context_among t.units unit)) (base_at bases unit) a a.value

-- entries whose range lists and location lists are read
abbrev pub lists_meant : Opened → AddrMap → MadeOnce → List Addr → List Entry → Result (List Entry) Fault
lists_meant o m t bases entries = do
  ranged ← entries_by (range_meant o m t bases) (all_marked entries)
  entries_by (location_meant o m t bases) ranged

-- the frame descriptions that are kept, and the code of subprograms
abbrev pub frames_with_code : Opened → AddrMap → List Entry → Result (List OutFrame × List CodeRange) Fault
frames_with_code o m entries = do
  frames ← frames_of o.image o.relocs.frame o.sections.frame
  Ok (frames_moved m frames, code_of m entries)

-- the analysis with units and entries
abbrev pub finished : Opened → AddrMap → List InUnit → List Entry → Result Analysis Fault
finished o m units entries = do
  made ← frames_with_code o m entries
  Ok (record { units = units; entries = entries; code = made.1; frames = made.0 })

-- of each unit, the address from which its lists count
abbrev pub bases_of : List InUnit → List Entry → List Addr
bases_of units entries = map (λ u. option_map_or base_of (slice_get entries u.first) (addrs.Fixed 0)) units

-- units with the line tables that they name, and entries with the lists that these name
abbrev pub tables_meant : Opened → AddrMap → MadeOnce → List InUnit → List Entry → Result (List InUnit × List Entry) Fault
tables_meant o m t units meant = do
  with_lines ← units_meant o m meant units
  listed ← lists_meant o m t (bases_of units meant) meant
  Ok (with_lines, listed)

-- what units and entries mean
abbrev pub entries_analysed : Opened → AddrMap → MadeOnce → List InUnit → List RawEntry → Result Analysis Fault
entries_analysed o m t units raw = do
  meant ← info_done o m t raw
  read ← tables_meant o m t units meant
  finished o m read.0 read.1

abbrev pub analysed : Opened → AddrMap → RawUnits → Result Analysis Fault
analysed o m raw = entries_analysed o m (made_of raw.units raw.entries) raw.units raw.entries
