-- Where the parts of a graph stand before it is written, each in its section.
use Rattle.std.specs.Prelude.{◌≡◌, ℕ, List, length, map, Some, None, Result, Ok, Err}
use Rattle.std.specs.List.{flat_map}
use Rattle.std.specs.Str.{bytes_eq}
use Rattle.ds_base.specs.FirstUse.{once}
use Rattle.dwarf_types.specs.declared.graph.Graph.{Graph}
use Rattle.dwarf_types.specs.declared.graph.OutUnit.{OutUnit}
use Rattle.dwarf_types.specs.Encode.{aranges_section, frame_section, line_str_section, str_section}
use Rattle.dwarf_types.specs.Layout.{line_text_place, line_texts_of_unit, lines_place, lists_place, numbered_units, table_place, text_place, texts_of_node, unit_start}
use Rattle.unit_draft.specs.declared.unit.Draft.{Draft}
use Rattle.unit_draft.specs.Drafted.{AreDrafts}
use Rattle.layout.specs.declared.error.LayoutError.{LayoutError}
use Rattle.layout.specs.declared.error.LayoutError.TheVariants as errors
use Rattle.layout.specs.declared.placing.PartPlaces.{PartPlaces}
use Rattle.layout.specs.declared.sizes.Sizes.{Sizes}
use Rattle.layout.specs.declared.starts.Starts.{Starts}
use Rattle.layout.specs.declared.table.Common.{Common}
use Rattle.layout.specs.declared.table.Common.TheVariants as commons
use Rattle.layout.specs.Lengths.{long_section, long_unit, starts_of}

-- ---- units

-- where the parts of the unit of a number stand, but for its entries
abbrev pub part_places : Graph → ℕ → OutUnit → PartPlaces
part_places graph u unit = record {
  table = table_place graph u;
  lines = lines_place graph u;
  ranges = (lists_place graph u unit).ranges;
  locations = (lists_place graph u unit).locations;
}

-- where each text of a unit stands, by first use
abbrev pub text_places : Graph → OutUnit → List ℕ
text_places graph unit = map (text_place graph) (once bytes_eq (flat_map texts_of_node unit.nodes))

-- and each text of its line table
abbrev pub line_text_places : Graph → OutUnit → List ℕ
line_text_places graph unit = map (line_text_place graph) (once bytes_eq (line_texts_of_unit unit))

-- ---- the graph

-- what is known of a graph whose units are drafted
pub record Laid : Type 0 where
  -- where each unit starts, and its other parts
  pub starts : List ℕ
  pub parts : List PartPlaces
  -- the bytes of the string section, and where the texts of each unit stand
  pub texts : List ℕ
  pub text_places : List (List ℕ)
  -- the same of the texts of line tables
  pub line_texts : List ℕ
  pub line_text_places : List (List ℕ)
  -- the two sections that don't come from drafts
  pub aranges : List ℕ
  pub frames : List ℕ
  -- where the parts of all units end
  pub ends : Starts
  pub drafts : List Draft

abbrev pub laid : Graph → List Draft → Laid
laid graph drafts = record {
  starts = map (λ n. unit_start graph n.0) (numbered_units graph);
  parts = map (λ n. part_places graph n.0 n.1) (numbered_units graph);
  texts = str_section graph;
  text_places = map (λ n. text_places graph n.1) (numbered_units graph);
  line_texts = line_str_section graph;
  line_text_places = map (λ n. line_text_places graph n.1) (numbered_units graph);
  aranges = aranges_section graph;
  frames = frame_section graph;
  ends = starts_of graph (length graph.units);
  drafts = drafts;
}

-- the bytes of what is made of all units together
abbrev pub common_in : Laid → Common → List ℕ
common_in layout commons.Texts = layout.texts
common_in layout commons.LineTexts = layout.line_texts
common_in layout commons.Aranges = layout.aranges
common_in layout commons.Frames = layout.frames

-- the sizes of what the sections are made of
abbrev pub sizes_in : Laid → Sizes
sizes_in layout = record { ends = layout.ends; texts = length layout.texts; line_texts = length layout.line_texts; aranges = length layout.aranges; frames = length layout.frames }

-- what measuring a graph answers: its layout, where nothing is too long; else the first unit that is, and else the first section. Want of memory says nothing.
abbrev pub Measures : Graph → Result Laid LayoutError → Type 0
Measures graph (Ok layout) = (layout ≡ laid graph layout.drafts) × (long_unit graph ≡ None) × (long_section graph ≡ None) × AreDrafts graph layout.drafts
Measures graph (Err (errors.Unit unit)) = long_unit graph ≡ Some unit
Measures graph (Err (errors.Section part)) = (long_unit graph ≡ None) × (long_section graph ≡ Some part)
Measures graph (Err errors.NoMemory) = Unit {0}

-- a layout of some graph
pub record IsMeasured (layout : Laid) : Type 0 where
  pub graph : Graph
  pub measured : Measures graph (Ok layout)
