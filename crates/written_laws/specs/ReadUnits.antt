-- The units of a graph as they are read again, and the limits of who reads them.
use Rattle.std.specs.Prelude.{◌≡◌, ◌<◌, ◌≤◌, ◌+◌, ◌^◌, ℕ, true, List, [], ◌∷◌, ◌++◌, length, map, slice_get, Option, Some, None}
use Rattle.std.specs.Option.{option_map, option_map_or}
use Rattle.std.specs.List.{All, sum_by}
use Rattle.ds_base.specs.DwarfNumbers.{LENGTH_RESERVED}
use Rattle.dwarf_types.specs.declared.entry.InUnit.{InUnit}
use Rattle.dwarf_types.specs.declared.entry.RawEntry.{RawEntry}
use Rattle.dwarf_types.specs.declared.entry.RawUnits.{RawUnits}
use Rattle.dwarf_types.specs.declared.graph.Graph.{Graph}
use Rattle.dwarf_types.specs.declared.graph.OutUnit.{OutUnit}
use Rattle.dwarf_types.specs.Abbreviations.{has_children}
use Rattle.dwarf_types.specs.Encode.{abbrev_section, aranges_section, frame_section, info_section, line_section, line_str_section, loc_section, loclists_section, ranges_section, rnglists_section, str_section}
use Rattle.dwarf_types.specs.Entries.{depth_of, header_len, unit_len}
use Rattle.dwarf_types.specs.Layout.{lists_place, places_of, unit_start}
use Rattle.dwarf_types.specs.SectionBytes.{SectionBytes}
use Rattle.unit_tree.specs.Spelling.{Node as TreeNode, SpellsObject, UnitTree, entry_of, raw_units}
use Rattle.unit_tree.specs.Unit.{language_of}
use Rattle.written_laws.specs.ReadEntries.{made_from}

-- the sections of a graph, by their names
abbrev pub sections_of : Graph → SectionBytes
sections_of graph = record {
  info = info_section graph;
  abbrev_ = abbrev_section graph;
  strings = str_section graph;
  str_offs = [];
  addr = [];
  line = line_section graph;
  line_str = line_str_section graph;
  ranges = ranges_section graph;
  rnglists = rnglists_section graph;
  loc = loc_section graph;
  loclists = loclists_section graph;
  aranges = aranges_section graph;
  frame = frame_section graph;
}

-- ---- limits

-- a unit of a number that isn't too long, in which no node has too many attributes, and none with children stands too deep
pub record IsShortUnit (u : ℕ) (unit : OutUnit) : Type 0 where
  pub short : unit_len u unit < 2 ^ 28
  pub narrow : All (λ node. length node.attrs ≤ 256) unit.nodes
  pub flat : (k : ℕ) → has_children unit.nodes k ≡ true → depth_of unit.nodes k < 1000

-- a graph whose sections have places of four bytes, of such units, with fewer entries than are read
pub record IsReadable (graph : Graph) : Type 0 where
  pub tables : length (abbrev_section graph) < 2 ^ 32
  pub info : length (info_section graph) < 2 ^ 32
  pub texts : length (str_section graph) < 2 ^ 32
  pub line : length (line_section graph) < LENGTH_RESERVED
  pub line_texts : length (line_str_section graph) < 2 ^ 32
  pub ranges : length (ranges_section graph) < 2 ^ 32
  pub rnglists : length (rnglists_section graph) < 2 ^ 32
  pub loc : length (loc_section graph) < 2 ^ 32
  pub loclists : length (loclists_section graph) < 2 ^ 32
  pub few : sum_by (λ unit. length unit.nodes) graph.units ≤ 2 ^ 24
  pub units : (u : ℕ) (unit : OutUnit) → slice_get graph.units u ≡ Some unit → IsShortUnit u unit

-- ---- entries

-- the nodes of the unit of a number as they are made from its bytes, each with the number of its parent in the unit
abbrev pub made_of : Graph → ℕ → OutUnit → List (Option ℕ × TreeNode)
made_of graph u unit = made_from (places_of graph u unit) unit.nodes (lists_place graph u unit) (unit_start graph u + header_len unit.version) 0 unit.nodes

-- as entries, where parents count from the unit's first entry, which has a number
abbrev pub numbered_from : ℕ → ℕ → List (Option ℕ × TreeNode) → List RawEntry
numbered_from u first made = map (λ e. entry_of u (option_map (λ p. first + p) e.0) e.1) made

-- the entries of units from a number on, the first of which has a number too
abbrev pub entries_read : Graph → ℕ → ℕ → List OutUnit → List RawEntry
entries_read graph u first [] = []
entries_read graph u first (unit ∷ units) = numbered_from u first (made_of graph u unit) ++ entries_read graph (u + 1) (first + length unit.nodes) units

-- a unit whose first entry has a number; its language is that of its root
abbrev pub row_read : Graph → ℕ → ℕ → OutUnit → InUnit
row_read graph u first unit = record {
  first = first;
  count = length unit.nodes;
  version = unit.version;
  language = option_map_or (λ e. language_of e.1.attrs) (slice_get (made_of graph u unit) 0) 0;
  lines = None;
}

abbrev pub rows_read : Graph → ℕ → ℕ → List OutUnit → List InUnit
rows_read graph u first [] = []
rows_read graph u first (unit ∷ units) = row_read graph u first unit ∷ rows_read graph (u + 1) (first + length unit.nodes) units

-- all of them
abbrev pub read_units : Graph → RawUnits
read_units graph = record { units = rows_read graph 0 0 graph.units; entries = entries_read graph 0 0 graph.units }

-- the sections of a graph are spelled as trees, whose units and entries are its units and nodes
pub record IsSpelledGraph (graph : Graph) : Type 0 where
  pub trees : List UnitTree
  pub spells : SpellsObject (sections_of graph) trees
  pub units : (raw_units trees).units ≡ rows_read graph 0 0 graph.units
  pub entries : (raw_units trees).entries ≡ entries_read graph 0 0 graph.units
