-- The units of a graph are read again.
use Rattle.std.proofs.Common.{◌≡◌, ◌<◌, ◌^◌, List, length, Ok, ap, ap₂, ◌∙◌, arith}
use Rattle.dwarf_types.specs.declared.entry.InUnit.{InUnit}
use Rattle.dwarf_types.specs.declared.entry.RawEntry.{RawEntry}
use Rattle.dwarf_types.specs.declared.entry.RawUnits.{RawUnits}
use Rattle.dwarf_types.specs.declared.graph.Graph.{Graph}
use Rattle.dwarf_types.specs.Encode.{abbrev_section, info_section}
use Rattle.dwarf_types.specs.Spelled.{AreBytes}
use Rattle.dwarf_types.specs.Well.{IsWell}
use Rattle.unit_tree.specs.Unit.{units_of}
use Rattle.unit_tree.proofs.UnitReads.{units_read}
use Rattle.written_laws.specs.ReadUnits.{IsReadable, read_units, sections_of}
use Rattle.written_laws.proofs.Units.{graph_spelled}

abbrev raw_by : List InUnit → List RawEntry → RawUnits
raw_by units entries = record { units = units; entries = entries }

pub units_again : (graph : Graph) → IsWell graph → IsReadable graph → AreBytes (info_section graph) → AreBytes (abbrev_section graph) → units_of (sections_of graph) ≡ Ok (read_units graph)
units_again graph well readable info tables =
    let s = graph_spelled graph well readable in
    let small : length (info_section graph) < 2 ^ 32 = omega (arith, readable.info) in
    units_read (sections_of graph) s.trees small info tables s.spells ∙ ap (λ (raw : RawUnits). Ok raw) (ap₂ raw_by s.units s.entries)
