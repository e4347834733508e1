-- A line table of a graph as bytes.
use Rattle.std.specs.Prelude.{ℕ, List}
use Rattle.dwarf_types.specs.declared.graph.Graph.{Graph}
use Rattle.dwarf_types.specs.declared.graph.OutUnit.{OutUnit}
use Rattle.dwarf_types.specs.Layout.{line_text_place}
use Rattle.dwarf_types.specs.LineTable.{lines_bytes}

-- the line table of a unit as bytes of the line section
abbrev pub table_in : Graph → OutUnit → List ℕ
table_in graph unit = lines_bytes (line_text_place graph) unit
