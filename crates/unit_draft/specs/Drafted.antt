-- What the draft of a unit is: its parts of all sections, as far as they follow from the unit alone.
use Rattle.std.specs.Prelude.{◌≡◌, ℕ, ◌^◌, ◌<◌, ◌≤◌, List, [], length, map, Result, Ok, Err, slice_get, Some}
use Rattle.std.specs.List.{enumerate_from, flat_map}
use Rattle.std.specs.Str.{bytes_eq}
use Rattle.ds_base.specs.FirstUse.{once}
use Rattle.dwarf_types.specs.declared.graph.Graph.{Graph}
use Rattle.dwarf_types.specs.declared.graph.OutUnit.{OutUnit}
use Rattle.dwarf_types.specs.Abbreviations.{table_bytes}
use Rattle.dwarf_types.specs.Encode.{unit_locations, unit_ranges}
use Rattle.dwarf_types.specs.Entries.{node_place, unit_bytes, unit_len}
use Rattle.dwarf_types.specs.Layout.{line_texts_of_unit, texts_of_node}
use Rattle.dwarf_types.specs.LineTable.{lines_bytes}
use Rattle.patches.specs.Filling.{Filling, filled}
use Rattle.unit_draft.specs.declared.unit.Draft.{Draft}
use Rattle.unit_draft.specs.declared.error.DraftError.{DraftError}
use Rattle.unit_draft.specs.declared.error.DraftError.TheVariants as errors
use Rattle.unit_draft.specs.World.{Stands, World}

-- where each node stands, counted from the header
abbrev pub node_places : ℕ → OutUnit → List ℕ
node_places u unit = map (λ k. node_place u unit k.0) (enumerate_from 0 unit.nodes)

-- the length of a line table, which no place of a text changes
abbrev pub lines_len : OutUnit → ℕ
lines_len unit = length (lines_bytes (λ text. 0) unit)

-- a draft of the unit of a number
pub record IsDraft (number : ℕ) (clone : OutUnit) (draft : Draft) : Type 0 where
  -- wherever the unit stands, its bytes are those of the draft with that filling
  pub info : (w : World) → Stands number clone draft.names draft.line_names w → filled draft.info w.filling ≡ unit_bytes w.places w.lists w.table clone
  pub size : (f : Filling) → length (filled draft.info f) ≡ unit_len number clone
  -- what the unit itself tells is filled in
  pub settled : draft.info.own ≡ []
  pub version : draft.version ≡ clone.version
  pub locations : draft.locations ≡ unit_locations (node_place number clone) clone
  pub ranges : draft.ranges ≡ unit_ranges clone
  -- its line table, wherever the texts stand that it names
  pub lines : (w : World) → Stands number clone draft.names draft.line_names w → filled draft.lines w.filling ≡ lines_bytes w.places.line_text clone
  pub lines_size : (f : Filling) → length (filled draft.lines f) ≡ lines_len clone
  pub lines_settled : draft.lines.own ≡ []
  pub line_names : draft.line_names ≡ once bytes_eq (line_texts_of_unit clone)
  pub table : draft.table ≡ table_bytes number clone
  pub names : draft.names ≡ once bytes_eq (flat_map texts_of_node clone.nodes)
  pub places : draft.places ≡ node_places number clone
  pub code : draft.code ≡ clone.ranges
  pub len : draft.len ≡ unit_len number clone
  pub short : unit_len number clone < 2 ^ 28

-- Ok is a draft; Unit comes exactly where the unit has 2^28 bytes or more; of want of memory nothing is said
abbrev pub Drafts : ℕ → OutUnit → Result Draft DraftError → Type 0
Drafts number clone (Ok draft) = IsDraft number clone draft
Drafts number clone (Err errors.Unit) = 2 ^ 28 ≤ unit_len number clone
Drafts number clone (Err errors.NoMemory) = Unit {0}

-- as many drafts as units, each of its unit by its number
pub record AreDrafts (graph : Graph) (drafts : List Draft) : Type 0 where
  pub count : length drafts ≡ length graph.units
  pub each : (u : ℕ) (unit : OutUnit) (draft : Draft) → slice_get graph.units u ≡ Some unit → slice_get drafts u ≡ Some draft → IsDraft u unit draft
