-- Which entry is which node, and where references lead: by the number of an entry among all.
use Rattle.std.specs.Prelude.{◌≡◌, ℕ, ◌+◌, ◌==◌, List, length, take, slice_get, Option, Some}
use Rattle.std.specs.List.{position, sum_by}
use Rattle.std.specs.Option.{option_map}
use Rattle.dwarf_types.specs.declared.entry.RawEntry.{RawEntry}
use Rattle.dwarf_types.specs.declared.graph.Graph.{Graph}
use Rattle.dwarf_types.specs.declared.graph.Node.{Node}
use Rattle.dwarf_types.specs.declared.graph.OutUnit.{OutUnit}
use Rattle.dwarf_types.specs.Entries.{node_locations_len, node_place, node_ranges_len}
use Rattle.dwarf_types.specs.Layout.{lists_place, places_of, unit_start}
use Rattle.dwarf_types.specs.Places.{ListPlaces}
use Rattle.written_laws.specs.ReadValues.{raw_attrs}

-- how many entries stand before those of the unit of a number
abbrev pub first_entry : List OutUnit → ℕ → ℕ
first_entry units u = sum_by (λ unit. length unit.nodes) (take u units)

-- the number of the entry that begins at a place
abbrev pub entry_at : List RawEntry → ℕ → Option ℕ
entry_at entries place = position (λ e. e.place == place) entries

-- an entry, where the unit's first has a number, is node k of a unit: its parent counts from that first one, and its values stand behind its code, where the
-- lists of the nodes before it end
pub record IsNodeEntry (graph : Graph) (u first : ℕ) (unit : OutUnit) (k : ℕ) (node : Node) (e : RawEntry) : Type 0 where
  pub parent : e.parent ≡ option_map (λ p. first + p) node.parent
  pub own : e.unit ≡ u
  pub place : e.place ≡ unit_start graph u + node_place u unit k
  pub tag : e.tag ≡ node.tag
  pub lists : ListPlaces
  pub ranges : lists.ranges ≡ (lists_place graph u unit).ranges + sum_by (node_ranges_len unit.version) (take k unit.nodes)
  pub locations : lists.locations ≡ (lists_place graph u unit).locations + sum_by (node_locations_len unit.version) (take k unit.nodes)
  pub values : ℕ
  pub attrs : e.attrs ≡ raw_attrs (places_of graph u unit) lists values node.attrs

-- the entry of a number is that node
pub record StandsFor (graph : Graph) (entries : List RawEntry) (u : ℕ) (unit : OutUnit) (k : ℕ) (node : Node) : Type 0 where
  pub entry : RawEntry
  pub stands : slice_get entries (first_entry graph.units u + k) ≡ Some entry
  pub is : IsNodeEntry graph u (first_entry graph.units u) unit k node entry
