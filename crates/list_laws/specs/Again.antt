-- Written lists as they are read again.
use Rattle.std.specs.Prelude.{◌≡◌, ◌<◌, ◌+◌, ◌^◌, ℕ, List, [], ◌∷◌, map, take, slice_get, Some}
use Rattle.std.specs.List.{sum_by}
use Rattle.dwarf_types.specs.declared.address.Addr.TheVariants as addrs
use Rattle.dwarf_types.specs.declared.address.Span.{Span}
use Rattle.dwarf_types.specs.declared.graph.Graph.{Graph}
use Rattle.dwarf_types.specs.declared.graph.Node.{Node}
use Rattle.dwarf_types.specs.declared.graph.OutAttr.{OutAttr}
use Rattle.dwarf_types.specs.declared.graph.OutLocation.{OutLocation}
use Rattle.dwarf_types.specs.declared.graph.OutUnit.{OutUnit}
use Rattle.dwarf_types.specs.declared.graph.OutValue.{OutValue}
use Rattle.dwarf_types.specs.declared.lists.RawLocation.{RawLocation}
use Rattle.dwarf_types.specs.declared.lists.RawSpan.{RawSpan}
use Rattle.dwarf_types.specs.Entries.{node_locations_len, node_ranges_len}
use Rattle.dwarf_types.specs.Expressions.{expression_bytes, expression_len}
use Rattle.dwarf_types.specs.Layout.{lists_place, places_of}
use Rattle.dwarf_types.specs.Lists.{kind_len, location_len, locations_len, ranges_len, size_len}
use Rattle.dwarf_types.specs.Places.{own_node}
use Rattle.dwarf_types.specs.WellValues.{IsSpan}
use Rattle.loc_lists.specs.declared.locations.LocationItem.{LocationItem}
use Rattle.list_laws.specs.Spelling.{as_location}

-- a span, whose ends no relocation moves
abbrev pub read_span : Span → RawSpan
read_span span = record { low = addrs.Fixed span.low; high = addrs.Fixed span.high }

abbrev pub read_spans : List Span → List RawSpan
read_spans spans = map read_span spans

-- an item that stands at a place: its expression stands behind the kind, the ends and the length
abbrev pub read_item : ℕ → (ℕ → ℕ) → ℕ → OutLocation → LocationItem
read_item version node place item = record {
  span = Some (read_span item.span);
  place = place;
  first = place + (kind_len version + (16 + size_len version (expression_len item.parts)));
  bytes = expression_bytes node item.parts;
}

-- the items of a list that begins at a place
abbrev pub read_items : ℕ → (ℕ → ℕ) → ℕ → List OutLocation → List LocationItem
read_items version node place [] = []
read_items version node place (item ∷ items) = read_item version node place item ∷ read_items version node (place + location_len version item) items

abbrev pub read_locations : ℕ → (ℕ → ℕ) → ℕ → List OutLocation → List RawLocation
read_locations version node place items = map as_location (read_items version node place items)

-- an item whose ends are addresses, and whose expression isn't too long for its length
pub record IsShort (version : ℕ) (item : OutLocation) : Type 0 where
  pub span : IsSpan item.span
  pub fits : expression_len item.parts < 2 ^ 64
  pub short : version ≡ 4 → expression_len item.parts < 2 ^ 16

-- ---- lists at their places in a graph's sections

-- the range list of attribute i of node k of a unit: behind those of the nodes before it, and those of the attributes before
abbrev pub ranges_place : Graph → ℕ → OutUnit → ℕ → Node → ℕ → ℕ
ranges_place graph u unit k node i = (lists_place graph u unit).ranges + (sum_by (node_ranges_len unit.version) (take k unit.nodes) + sum_by (λ a. ranges_len unit.version a.value) (take i node.attrs))

-- a location list likewise
abbrev pub locations_place : Graph → ℕ → OutUnit → ℕ → Node → ℕ → ℕ
locations_place graph u unit k node i = (lists_place graph u unit).locations + (sum_by (node_locations_len unit.version) (take k unit.nodes) + sum_by (λ a. locations_len unit.version a.value) (take i node.attrs))

-- attribute i of node k of the unit of a number has this value
pub record Holds (graph : Graph) (u : ℕ) (unit : OutUnit) (k : ℕ) (node : Node) (i : ℕ) (value : OutValue) : Type 0 where
  pub in_graph : slice_get graph.units u ≡ Some unit
  pub in_unit : slice_get unit.nodes k ≡ Some node
  pub attr : OutAttr
  pub in_node : slice_get node.attrs i ≡ Some attr
  pub is : attr.value ≡ value

-- what the unit's expressions name its nodes by
abbrev pub node_at : Graph → ℕ → OutUnit → ℕ → ℕ
node_at graph u unit = own_node (places_of graph u unit)
