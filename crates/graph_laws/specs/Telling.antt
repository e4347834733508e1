-- What sections tell of a graph: their units, entries, values and frames, as the standard spells them, are its units, nodes, values and frames (DWARF 4 and 5, sections 2, 6 and 7).
use Rattle.std.specs.Prelude.{◌≡◌, ◌<◌, ◌+◌, ◌-◌, ◌==◌, ◌&&◌, ℕ, List, [], ◌∷◌, length, slice_get, is_some, nat_le, nat_lt, Option, Some, None, Ok, if◌then◌else◌}
use Rattle.std.specs.Option.{option_and_then, option_map}
use Rattle.ds_base.specs.DwarfNumbers.{DW_AT_low_pc, DW_FORM_exprloc}
use Rattle.dwarf_types.specs.declared.address.Addr.{Addr}
use Rattle.dwarf_types.specs.declared.address.Addr.TheVariants as addrs
use Rattle.dwarf_types.specs.declared.address.Span.{Span}
use Rattle.dwarf_types.specs.declared.entry.InUnit.{InUnit}
use Rattle.dwarf_types.specs.declared.entry.RawAttr.{RawAttr}
use Rattle.dwarf_types.specs.declared.entry.RawEntry.{RawEntry}
use Rattle.dwarf_types.specs.declared.entry.RawUnits.{RawUnits}
use Rattle.dwarf_types.specs.declared.expr.Op.{Op}
use Rattle.dwarf_types.specs.declared.graph.Graph.{Graph}
use Rattle.dwarf_types.specs.declared.graph.Node.{Node}
use Rattle.dwarf_types.specs.declared.graph.OutAttr.{OutAttr}
use Rattle.dwarf_types.specs.declared.graph.OutLocation.{OutLocation}
use Rattle.dwarf_types.specs.declared.graph.OutUnit.{OutUnit}
use Rattle.dwarf_types.specs.declared.graph.OutValue.{OutValue}
use Rattle.dwarf_types.specs.declared.graph.OutValue.TheVariants as outs
use Rattle.dwarf_types.specs.declared.lines.OutLines.{OutLines}
use Rattle.dwarf_types.specs.declared.parts.ExprPart.{ExprPart}
use Rattle.dwarf_types.specs.declared.value.Value.{Value}
use Rattle.dwarf_types.specs.declared.value.Value.TheVariants as values
use Rattle.dwarf_types.specs.Entries.{header_len}
use Rattle.dwarf_types.specs.SectionBytes.{SectionBytes, location_bytes, range_bytes}
use Rattle.dwarf_types.specs.WellNodes.{has_lines}
use Rattle.expr_walk.specs.Spelling.{SpellsExpression}
use Rattle.frame_laws.specs.Again.{read_frames}
use Rattle.frame_laws.specs.Spelling.{SpellsFrames}
use Rattle.line_laws.specs.Again.{read_again}
use Rattle.line_read.specs.Program.{lines_of}
use Rattle.list_laws.specs.Again.{read_span, read_spans}
use Rattle.list_laws.specs.Spelling.{FollowsItem, FollowsRange, StandsAt}
use Rattle.loc_lists.specs.declared.locations.LocationItem.{LocationItem}
use Rattle.loc_lists.specs.Reading.{location_context}
use Rattle.macho_read.specs.declared.image.Image.{Image}
use Rattle.macho_read.specs.declared.kind.Role.TheVariants as roles
use Rattle.macho_read.specs.Image.{image_of}
use Rattle.macho_read.specs.Kind.{kind_of}
use Rattle.range_lists.specs.Reading.{range_context}
use Rattle.reloc_table.specs.declared.relocation.Relocs.{Relocs}
use Rattle.reloc_table.specs.declared.sections.Compressed.TheVariants.{Ignored}
use Rattle.reloc_table.specs.Parts.{all_tried, sections_in}
use Rattle.unit_tree.specs.Spelling.{IsSpelled}
use Rattle.written_laws.specs.LedBack.{entry_at}
use Rattle.written_laws.specs.ReadParts.{expression_told}

-- sections of an image, where no relocation stands, and the units and entries that they spell
pub record Read : Type 0 where
  pub image : Image
  pub relocs : Relocs
  pub sections : SectionBytes
  pub units : RawUnits

-- ---- expressions

-- the number of an entry among those of its unit
abbrev pub number_in : InUnit → ℕ → Option ℕ
number_in row n = if nat_le row.first n && nat_lt n (row.first + row.count) then Some (n - row.first) else None

-- the node of a unit that begins at a place, which counts from the unit's header
abbrev pub node_named : Read → InUnit → ℕ → ℕ → Option ℕ
node_named read row start place = option_and_then (number_in row) (entry_at read.units.entries (start + place))

-- bytes spell operations that say these parts, with base types by the nodes that they name
pub record TellsExpression (node : ℕ → Option ℕ) (version : ℕ) (bytes : List ℕ) (parts : List ExprPart) : Type 0 where
  pub ops : List Op
  pub spells : SpellsExpression version bytes ops
  pub says : expression_told node ops ≡ parts

-- ---- values

-- what the values of a unit are understood by: its version, the address that lists count from, its nodes by their places, and its line table
pub record Around : Type 0 where
  pub version : ℕ
  pub base : Addr
  pub node : ℕ → Option ℕ
  pub lines : Option OutLines

-- a location gives a span and an expression
pub record TellsLocation (around : Around) (item : LocationItem) (out : OutLocation) : Type 0 where
  pub span : item.span ≡ Some (read_span out.span)
  pub expression : TellsExpression around.node around.version item.bytes out.parts

abbrev pub TellsLocations : Around → List LocationItem → List OutLocation → Type 0
TellsLocations around [] [] = Unit {0}
TellsLocations around (item ∷ items) (out ∷ outs) = TellsLocation around item out × TellsLocations around items outs
TellsLocations around given outs = ⊥

-- a place of an entry, which is the node of a number in the unit of a number
pub record LeadsTo (read : Read) (place unit node : ℕ) : Type 0 where
  pub row : InUnit
  pub stands : slice_get read.units.units unit ≡ Some row
  pub entry : entry_at read.units.entries place ≡ Some (row.first + node)
  pub inside : node < row.count

-- the list of ranges at a place, whatever addresses the unit names by indices
abbrev pub TellsRanges : Read → Around → ℕ → List Span → Type 0
TellsRanges read around place spans =
    (addr_base : ℕ) → StandsAt (range_context read.sections read.relocs read.image around.version read.relocs addr_base) FollowsRange around.base (range_bytes read.sections around.version) place (read_spans spans)

-- the list of locations
pub record TellsList (read : Read) (around : Around) (place addr_base : ℕ) (outs : List OutLocation) : Type 0 where
  pub items : List LocationItem
  pub stands : StandsAt (location_context read.sections read.relocs read.image around.version read.relocs addr_base) (FollowsItem around.version) around.base (location_bytes read.sections around.version) place items
  pub each : TellsLocations around items outs

-- the unit's line table
pub record TellsLines (read : Read) (around : Around) (place : ℕ) : Type 0 where
  pub lines : OutLines
  pub has : around.lines ≡ Some lines
  pub is : lines_of read.image read.relocs read.sections around.version place ≡ Ok (read_again lines)

-- a value as it is read, and what it says: a line a kind
abbrev pub TellsValue : Read → Around → Value → OutValue → Type 0
TellsValue read around value (outs.Address n) = value ≡ values.Address (record { at = addrs.Fixed n; linked = None; linked_end = None })
TellsValue read around value (outs.Text text) = value ≡ values.Text text
TellsValue read around value (outs.Number form bits) = value ≡ values.Number form bits
TellsValue read around value (outs.Wide bytes) = value ≡ values.Wide bytes
TellsValue read around value (outs.Block form bytes) = value ≡ values.Block form bytes
TellsValue read around value (outs.Expr parts) = (bytes : List ℕ) × (value ≡ values.Block DW_FORM_exprloc bytes) × TellsExpression around.node around.version bytes parts
TellsValue read around value (outs.Ref target) = (place : ℕ) × (value ≡ values.Ref place) × LeadsTo read place target.unit target.node
TellsValue read around value (outs.Ranges spans) = (place : ℕ) × (value ≡ values.Offset place) × TellsRanges read around place spans
TellsValue read around value (outs.Locations items) = (place : ℕ) × (value ≡ values.Offset place) × ((addr_base : ℕ) → TellsList read around place addr_base items)
TellsValue read around value outs.Lines = (place : ℕ) × (value ≡ values.Offset place) × TellsLines read around place

-- attributes one by one
abbrev pub TellsAttrs : Read → Around → List RawAttr → List OutAttr → Type 0
TellsAttrs read around [] [] = Unit {0}
TellsAttrs read around (raw ∷ raws) (a ∷ attrs) = (raw.name ≡ a.name) × TellsValue read around raw.value a.value × TellsAttrs read around raws attrs
TellsAttrs read around raws attrs = ⊥

-- ---- nodes and units

-- an entry of a unit: its parent counts from the unit's first entry
pub record TellsNode (read : Read) (row : InUnit) (around : Around) (e : RawEntry) (node : Node) : Type 0 where
  pub tag : e.tag ≡ node.tag
  pub parent : e.parent ≡ option_map (λ p. row.first + p) node.parent
  pub attrs : TellsAttrs read around e.attrs node.attrs

-- the address that the lists of a unit count from: that of the first low_pc of its root, or 0
abbrev pub address_in : OutValue → Addr
address_in (outs.Address n) = addrs.Fixed n
address_in _ = addrs.Fixed 0

abbrev pub base_of : List OutAttr → Addr
base_of [] = addrs.Fixed 0
base_of (a ∷ attrs) = if a.name == DW_AT_low_pc then address_in a.value else base_of attrs

-- the addresses of its code: the ranges in the last attribute of its root, behind others
abbrev pub spans_in : OutValue → List Span
spans_in (outs.Ranges spans) = spans
spans_in _ = []

abbrev pub last_spans : List Span → List OutAttr → List Span
last_spans before [] = before
last_spans before (a ∷ attrs) = last_spans (spans_in a.value) attrs

abbrev pub around_of : Read → InUnit → ℕ → OutUnit → Node → Around
around_of read row start unit root = record { version = unit.version; base = base_of root.attrs; node = node_named read row start; lines = unit.lines }

-- Node k is entry k of the unit. The root stands behind the unit's header, and says which line table and which ranges are the unit's.
pub record TellsUnit (read : Read) (u : ℕ) (unit : OutUnit) : Type 0 where
  pub row : InUnit
  pub stands : slice_get read.units.units u ≡ Some row
  pub version : row.version ≡ unit.version
  pub count : row.count ≡ length unit.nodes
  pub root : Node
  pub first : slice_get unit.nodes 0 ≡ Some root
  pub start : ℕ
  pub header : (e : RawEntry) → slice_get read.units.entries row.first ≡ Some e → e.place ≡ start + header_len unit.version
  pub lines : is_some unit.lines ≡ has_lines root
  pub ranges : unit.ranges ≡ last_spans [] root.attrs
  pub nodes : (k : ℕ) (node : Node) → slice_get unit.nodes k ≡ Some node → (e : RawEntry) × (slice_get read.units.entries (row.first + k) ≡ Some e) × TellsNode read row (around_of read row start unit root) e node

-- ---- the graph

pub record TellsGraph (image : Image) (relocs : Relocs) (sections : SectionBytes) (graph : Graph) : Type 0 where
  pub raw : RawUnits
  pub spelled : IsSpelled sections raw
  pub count : length raw.units ≡ length graph.units
  pub units : (u : ℕ) (unit : OutUnit) → slice_get graph.units u ≡ Some unit → TellsUnit (record { image = image; relocs = relocs; sections = sections; units = raw }) u unit
  pub frames : SpellsFrames sections.frame (read_frames graph.frames)

-- ---- images

-- bytes are the image of a bundle, whose debug sections lie in it and tell a graph
pub record TellsImage (bytes : List ℕ) (graph : Graph) : Type 0 where
  pub image : Image
  pub is : image_of bytes ≡ Ok image
  pub bundle : kind_of image roles.Bundle ≡ Ok tt
  pub inside : all_tried Ignored bytes [] image.sections ≡ Ok tt
  pub tells : (relocs : Relocs) → relocs.list ≡ [] → TellsGraph image relocs (sections_in bytes image.sections) graph
