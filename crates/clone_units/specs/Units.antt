-- A unit by the entries for which its nodes stand.
use Rattle.std.specs.Prelude.{◌≡◌, ℕ, List, slice_get, Option, Some}
use Rattle.std.specs.List.{All, filter_map}
use Rattle.std.specs.Option.{option_and_then}
use Rattle.clone_units.specs.Nodes.{node_at, number_of_object}
use Rattle.clone_units.specs.Pieces.{object_in}
use Rattle.dwarf_types.specs.declared.address.Span.{Span}
use Rattle.dwarf_types.specs.declared.analysis.Analysis.{Analysis}
use Rattle.dwarf_types.specs.declared.entry.Entry.{Entry}
use Rattle.dwarf_types.specs.declared.entry.InUnit.{InUnit}
use Rattle.dwarf_types.specs.declared.graph.OutUnit.{OutUnit}
use Rattle.dwarf_types.specs.declared.graph.Target.{Target}
use Rattle.dwarf_types.specs.declared.shape.Origin.{Origin}
use Rattle.dwarf_types.specs.declared.shape.Shape.{Shape}
use Rattle.dwarf_types.specs.declared.shape.ShapeUnit.{ShapeUnit}
use Rattle.dwarf_types.specs.LinkedGraph.{code_of_unit}
use Rattle.dwarf_types.specs.Live.{Stands}
use Rattle.dwarf_types.specs.Sound.{IsSound}
use Rattle.link_graph.specs.Graph.{IsShape, graph_in}

-- a unit of an object, with the addresses of its code, by the entries for which its nodes stand
abbrev pub unit_with : Analysis → List (Option Target) → InUnit → List Span → List Origin → OutUnit
unit_with own row unit spans origins = record { version = unit.version; nodes = filter_map (node_at own row spans) origins; lines = unit.lines; ranges = spans }

-- the unit in which entry k of an object stands, by the nodes of the object's entries
pub record IsUnitOf (own : Analysis) (row : List (Option Target)) (plain : List (Option ℕ)) (k : ℕ) (origins : List Origin) (it : OutUnit) : Type 0 where
  pub entry : Entry
  pub stands : Stands own.entries k entry
  pub unit : InUnit
  pub its_unit : slice_get own.units entry.unit ≡ Some unit
  pub is : it ≡ unit_with own row unit (code_of_unit (object_in own plain) entry.unit) origins

-- the object of a unit of a shape, which its root names; the root of the unit of merged entries names none
abbrev pub object_of : Shape → ℕ → Option ℕ
object_of shape u = option_and_then (λ unit. option_and_then number_of_object (slice_get unit.nodes 0)) (slice_get shape.units u)

-- a node of unit u stands for an entry of an object
pub record Names (shape : Shape) (u object : ℕ) : Type 0 where
  pub unit : ShapeUnit
  pub its : slice_get shape.units u ≡ Some unit
  pub node : ℕ
  pub origin : Origin
  pub stands : slice_get unit.nodes node ≡ Some origin
  pub number : number_of_object origin ≡ Some object

-- of all analyses those that unit u needs are there
abbrev pub AreThere : Shape → ℕ → List Analysis → List Analysis → Type 0
AreThere shape u all seen = (object : ℕ) → Names shape u object → slice_get seen object ≡ slice_get all object

-- the shape is one of sound analyses, of which those are there
pub record Holds (seen : List Analysis) (shape : Shape) (u : ℕ) : Type 0 where
  pub all : List Analysis
  pub is_shape : IsShape all shape
  pub sound : All IsSound all
  pub there : AreThere shape u all seen

-- unit u of the graph of all analyses, whichever the others are
abbrev pub IsUnitIn : List Analysis → Shape → ℕ → OutUnit → Type 0
IsUnitIn seen shape u it = (all : List Analysis) → IsShape all shape → AreThere shape u all seen → slice_get (graph_in all shape).units u ≡ Some it
