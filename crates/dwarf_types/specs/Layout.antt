-- Where the parts of each unit of a graph stand, each in its section: behind those of the units before it.
use Rattle.std.specs.Prelude.{ℕ, ◌+◌, ◌==◌, Bool, List, [], ◌++◌, length, map, take, slice_get, Option, Some, None, if◌then◌else◌}
use Rattle.std.specs.Option.{option_map_or, unwrap_or}
use Rattle.std.specs.List.{enumerate_from, filter_map, flat_map, sum_by}
use Rattle.std.specs.Str.{bytes_eq}
use Rattle.ds_base.specs.FirstUse.{once}
use Rattle.ds_base.specs.Texts.{place_of}
use Rattle.dwarf_types.specs.declared.graph.Graph.{Graph}
use Rattle.dwarf_types.specs.declared.graph.Node.{Node}
use Rattle.dwarf_types.specs.declared.graph.OutUnit.{OutUnit}
use Rattle.dwarf_types.specs.declared.graph.OutValue.{OutValue}
use Rattle.dwarf_types.specs.declared.graph.OutValue.TheVariants as values
use Rattle.dwarf_types.specs.declared.graph.Target.{Target}
use Rattle.dwarf_types.specs.Abbreviations.{same_flag, table_bytes}
use Rattle.dwarf_types.specs.Entries.{node_ranges_len, node_locations_len, node_place, unit_len}
use Rattle.dwarf_types.specs.LineTable.{lines_bytes}
use Rattle.dwarf_types.specs.Lists.{lists_header_len}
use Rattle.dwarf_types.specs.Places.{Places, ListPlaces}

-- ---- texts

abbrev pub text_of : OutValue → Option (List ℕ)
text_of (values.Text text) = Some text
text_of _ = None

-- the texts of a node, in the order of its values
abbrev pub texts_of_node : Node → List (List ℕ)
texts_of_node node = filter_map (λ a. text_of a.value) node.attrs

-- the texts of a graph, each once, by first use over units, nodes and values
abbrev pub texts_of : Graph → List (List ℕ)
texts_of graph = once bytes_eq (flat_map (λ unit. flat_map texts_of_node unit.nodes) graph.units)

abbrev pub text_place : Graph → List ℕ → ℕ
text_place graph text = unwrap_or (place_of (texts_of graph) text) 0

-- the texts of a unit's line table: in version 5 its directories and then its files, in version 4 none, since they stand in the table
abbrev pub line_texts_of_unit : OutUnit → List (List ℕ)
line_texts_of_unit unit = if unit.version == 5 then option_map_or (λ lines. lines.dirs ++ map (λ file. file.name) lines.files) unit.lines [] else []

-- those of a graph, each once, by first use over units
abbrev pub line_texts_of : Graph → List (List ℕ)
line_texts_of graph = once bytes_eq (flat_map line_texts_of_unit graph.units)

abbrev pub line_text_place : Graph → List ℕ → ℕ
line_text_place graph text = unwrap_or (place_of (line_texts_of graph) text) 0

-- ---- units

-- the units with their numbers
abbrev pub numbered_units : Graph → List (ℕ × OutUnit)
numbered_units graph = enumerate_from 0 graph.units

-- the sum of some length over the units before the one of a number
abbrev pub before_unit : Graph → (ℕ → OutUnit → ℕ) → ℕ → ℕ
before_unit graph len u = sum_by (λ n. len n.0 n.1) (take u (numbered_units graph))

-- the place of a unit's header in the information section
abbrev pub unit_start : Graph → ℕ → ℕ
unit_start graph u = before_unit graph unit_len u

-- of its table in the abbreviation section
abbrev pub table_place : Graph → ℕ → ℕ
table_place graph u = before_unit graph (λ v unit. length (table_bytes v unit)) u

-- of its line table in the line section
abbrev pub lines_place : Graph → ℕ → ℕ
lines_place graph u = before_unit graph (λ v unit. length (lines_bytes (line_text_place graph) unit)) u

-- The lists of units of version 5 stand in sections of their own: whether a unit's lists stand in these, or in the others.
abbrev pub stands_in : Bool → OutUnit → Bool
stands_in five unit = same_flag (unit.version == 5) five

abbrev pub unit_ranges_len : Bool → OutUnit → ℕ
unit_ranges_len five unit = if stands_in five unit then sum_by (node_ranges_len unit.version) unit.nodes else 0

abbrev pub unit_locations_len : Bool → OutUnit → ℕ
unit_locations_len five unit = if stands_in five unit then sum_by (node_locations_len unit.version) unit.nodes else 0

-- the lists of the units before the one of a number
abbrev pub ranges_before : Bool → Graph → ℕ → ℕ
ranges_before five graph u = before_unit graph (λ v unit. unit_ranges_len five unit) u

abbrev pub locations_before : Bool → Graph → ℕ → ℕ
locations_before five graph u = before_unit graph (λ v unit. unit_locations_len five unit) u

-- where the first list of a section stands
abbrev pub lists_start : Bool → ℕ
lists_start five = if five then lists_header_len else 0

-- of the first lists of the unit of a number, each in its section
abbrev pub lists_place : Graph → ℕ → OutUnit → ListPlaces
lists_place graph u unit = record {
  ranges = lists_start (unit.version == 5) + ranges_before (unit.version == 5) graph u;
  locations = lists_start (unit.version == 5) + locations_before (unit.version == 5) graph u;
}

-- of an entry, counted from the header of its unit
abbrev pub target_place : Graph → Target → ℕ
target_place graph target = option_map_or (λ unit. node_place target.unit unit target.node) (slice_get graph.units target.unit) 0

-- what the values and the line table of the unit of a number name
abbrev pub places_of : Graph → ℕ → OutUnit → Places
places_of graph u unit = record {
  unit = u;
  version = unit.version;
  text = text_place graph;
  start = unit_start graph;
  node = target_place graph;
  lines = lines_place graph u;
  line_text = line_text_place graph;
}
