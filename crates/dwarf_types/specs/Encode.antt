-- The one encoding of a graph: its sections in the order of the output, those without bytes left out.
use Rattle.std.specs.Prelude.{ℕ, ◌==◌, Bool, true, false, not, List, [], ◌∷◌, length, if◌then◌else◌}
use Rattle.std.specs.List.{filter, flat_map}
use Rattle.ds_base.specs.declared.fault.Part.TheVariants as parts
use Rattle.ds_base.specs.Texts.{section_of}
use Rattle.dwarf_types.specs.declared.graph.Graph.{Graph}
use Rattle.dwarf_types.specs.declared.graph.OutUnit.{OutUnit}
use Rattle.dwarf_types.specs.declared.graph.OutValue.{OutValue}
use Rattle.dwarf_types.specs.declared.graph.Written.{Written}
use Rattle.dwarf_types.specs.Abbreviations.{table_bytes}
use Rattle.dwarf_types.specs.Aranges.{aranges_bytes}
use Rattle.dwarf_types.specs.Entries.{unit_bytes}
use Rattle.dwarf_types.specs.Frames.{frames_bytes}
use Rattle.dwarf_types.specs.LineTable.{lines_bytes}
use Rattle.dwarf_types.specs.Lists.{behind_header, ranges_bytes, locations_bytes}
use Rattle.dwarf_types.specs.Layout.{texts_of, line_texts_of, line_text_place, numbered_units, unit_start, stands_in, table_place, lists_place, places_of}
use Rattle.dwarf_types.specs.Places.{own_node}

-- the parts of all units, one after the other
abbrev pub over_units : Graph → (ℕ → OutUnit → List ℕ) → List ℕ
over_units graph part = flat_map (λ n. part n.0 n.1) (numbered_units graph)

-- what the values of a unit have in a section, in preorder
abbrev pub over_values : (OutValue → List ℕ) → OutUnit → List ℕ
over_values part unit = flat_map (λ node. flat_map (λ a. part a.value) node.attrs) unit.nodes

abbrev pub abbrev_section : Graph → List ℕ
abbrev_section graph = over_units graph table_bytes

abbrev pub info_section : Graph → List ℕ
info_section graph = over_units graph (λ u unit. unit_bytes (places_of graph u unit) (lists_place graph u unit) (table_place graph u) unit)

abbrev pub str_section : Graph → List ℕ
str_section graph = section_of (texts_of graph)

abbrev pub line_section : Graph → List ℕ
line_section graph = flat_map (lines_bytes (line_text_place graph)) graph.units

abbrev pub line_str_section : Graph → List ℕ
line_str_section graph = section_of (line_texts_of graph)

-- the lists of a unit, by the place of each node in it
abbrev pub unit_ranges : OutUnit → List ℕ
unit_ranges unit = over_values (ranges_bytes unit.version) unit

abbrev pub unit_locations : (ℕ → ℕ) → OutUnit → List ℕ
unit_locations place unit = over_values (locations_bytes unit.version place) unit

-- those of all units whose lists stand in the sections of version 5, or in the others
abbrev pub all_ranges : Bool → Graph → List ℕ
all_ranges five graph = flat_map (λ unit. if stands_in five unit then unit_ranges unit else []) graph.units

abbrev pub all_locations : Bool → Graph → List ℕ
all_locations five graph = over_units graph (λ u unit. if stands_in five unit then unit_locations (own_node (places_of graph u unit)) unit else [])

abbrev pub ranges_section : Graph → List ℕ
ranges_section graph = all_ranges false graph

abbrev pub rnglists_section : Graph → List ℕ
rnglists_section graph = behind_header (all_ranges true graph)

abbrev pub loc_section : Graph → List ℕ
loc_section graph = all_locations false graph

abbrev pub loclists_section : Graph → List ℕ
loclists_section graph = behind_header (all_locations true graph)

abbrev pub aranges_section : Graph → List ℕ
aranges_section graph = over_units graph (λ u unit. aranges_bytes (unit_start graph u) unit.ranges)

abbrev pub frame_section : Graph → List ℕ
frame_section graph = frames_bytes graph.frames

-- all of them, also those without bytes
abbrev pub all_sections : Graph → List Written
all_sections graph =
    record { part = parts.Abbrev; bytes = abbrev_section graph }
    ∷ record { part = parts.Info; bytes = info_section graph }
    ∷ record { part = parts.Str; bytes = str_section graph }
    ∷ record { part = parts.Line; bytes = line_section graph }
    ∷ record { part = parts.LineStr; bytes = line_str_section graph }
    ∷ record { part = parts.Ranges; bytes = ranges_section graph }
    ∷ record { part = parts.Rnglists; bytes = rnglists_section graph }
    ∷ record { part = parts.Loc; bytes = loc_section graph }
    ∷ record { part = parts.Loclists; bytes = loclists_section graph }
    ∷ record { part = parts.Aranges; bytes = aranges_section graph }
    ∷ record { part = parts.Frame; bytes = frame_section graph } ∷ []

abbrev pub has_bytes : Written → Bool
has_bytes section = not (length section.bytes == 0)

abbrev pub encode : Graph → List Written
encode graph = filter has_bytes (all_sections graph)
