-- An object's analysis, or its first fault: its steps one after the other.
use Rattle.std.specs.Prelude.{ℕ, List, Result, Ok}
use Rattle.ds_base.specs.declared.fault.Fault.{Fault}
use Rattle.ds_base.specs.Reading.{◌>>=◌}
use Rattle.dwarf_types.specs.declared.analysis.Analysis.{Analysis}
use Rattle.dwarf_types.specs.declared.entry.RawUnits.{RawUnits}
use Rattle.stab_map.specs.declared.object.MapObject.{MapObject}
use Rattle.addr_map.specs.declared.map.AddrMap.{AddrMap}
use Rattle.addr_map.specs.Ranges.{map_of}
use Rattle.frame_table.specs.Frames.{frames_of}
use Rattle.moved_parts.specs.Frames.{frames_moved}
use Rattle.object_view.specs.Attributes.{all_marked, entries_by, entries_meant, locations_step, ranges_step, units_meant}
use Rattle.object_view.specs.Code.{code_of}
use Rattle.object_read.specs.Opened.{Opened}
use Rattle.object_read.specs.Read.{Read, read_of}

-- what the units that were read mean: expressions, line tables, range lists, location lists, frames
unfoldable pub units_analysed : Opened → AddrMap → RawUnits → Result Analysis Fault
units_analysed o map raw = do
  meant ← entries_meant o map raw
  units ← units_meant o map meant raw.units
  ranged ← entries_by (ranges_step o map raw meant) (all_marked meant)
  entries ← entries_by (locations_step o map raw meant) ranged
  frames ← frames_of o.image o.relocs.frame o.sections.frame
  Ok (record { units = units; entries = entries; code = code_of map entries; frames = frames_moved map frames })

-- an object that was read, by its part of the debug map
abbrev pub read_analysed : Read → MapObject → Result Analysis Fault
read_analysed read object = units_analysed read.opened (map_of object read.opened.image) read.units

-- the object in a file's bytes, for a program of a CPU type
unfoldable pub analysis_of : List ℕ → MapObject → ℕ → Result Analysis Fault
analysis_of bytes object cpu = do
  read ← read_of bytes cpu
  read_analysed read object
