-- The shape of a linked graph, and what is counted of its names. Want of memory says nothing.
use Rattle.std.specs.Prelude.{◌≡◌, ◌<◌, ◌-◌, ℕ, ◌^◌, Bool, List, ◌++◌, length, Some, Result, Ok, Err}
use Rattle.dwarf_types.specs.declared.analysis.Analysis.{Analysis}
use Rattle.dwarf_types.specs.declared.shape.Shape.{Shape}
use Rattle.dwarf_types.specs.declared.shape.ShapeUnit.{ShapeUnit}
use Rattle.link_graph.specs.Graph.{IsShape, graph_in}
use Rattle.link_graph.specs.Merged.{linked_names, pool_units, shape_of}
use Rattle.link_graph.specs.Pool.{pool_names}
use Rattle.type_names.specs.Names.{Named}
use Rattle.link_status.specs.declared.refusal.Refusal.{Refusal}
use Rattle.link_status.specs.declared.refusal.Refusal.TheVariants as refusals
use Rattle.unit_drafts.specs.declared.graph.Shaped.{Shaped}
use Rattle.unit_drafts.specs.Graphs.{IsClosed, graph_of}
use Rattle.unit_drafts.specs.Limits.{drafts_limit}

-- the shape of what is linked of analyses with their live entries, and what is counted of its names
pub record IsShaped (odr : Bool) (seen : List Analysis) (live : List (List Bool)) (it : Shaped) : Type 0 where
  pub is_shape : IsShape seen it.shape
  pub graph : graph_in seen it.shape ≡ graph_of odr seen live
  pub few : length it.shape.units < 2 ^ 32 - 1
  pub few_names : length (linked_names odr seen live) < 2 ^ 25
  pub pooled : it.pooled ≡ length (linked_names odr seen live)
  pub names : it.names ≡ length (pool_names (linked_names odr seen live))
  pub closed : IsClosed (linked_names odr seen live) it.closed

-- the names of the entries that are merged, or that there are too many
abbrev pub Names : Bool → List Analysis → List (List Bool) → Result (List Named) Refusal → Type 0
Names odr seen live (Ok names) = (names ≡ linked_names odr seen live) × (length names < 2 ^ 25)
Names odr seen live (Err (refusals.Faulty file fault)) = ⊥
Names odr seen live (Err (refusals.Limit which n)) = drafts_limit odr seen live ≡ Some (refusals.Limit which n)
Names odr seen live (Err refusals.NoMemory) = Unit {0}

-- the shape of what is linked, or that it has too many units
abbrev pub ShapesAll : Bool → List Analysis → List (List Bool) → Result Shape Refusal → Type 0
ShapesAll odr seen live (Ok shape) = (shape ≡ shape_of odr seen live) × IsShape seen shape × (length shape.units < 2 ^ 32 - 1)
ShapesAll odr seen live (Err (refusals.Faulty file fault)) = ⊥
ShapesAll odr seen live (Err (refusals.Limit which n)) = drafts_limit odr seen live ≡ Some (refusals.Limit which n)
ShapesAll odr seen live (Err refusals.NoMemory) = Unit {0}

-- where there are names, the first unit has a root and their nodes
pub record HasPool (shape : Shape) (names : List Named) : Type 0 where
  pub version : ℕ
  pub others : List ShapeUnit
  pub units : shape.units ≡ pool_units version names ++ others

-- such a shape, or that too many entries are merged, or that it has too many units
abbrev pub Shapes : Bool → List Analysis → List (List Bool) → Result Shaped Refusal → Type 0
Shapes odr seen live (Ok it) = IsShaped odr seen live it
Shapes odr seen live (Err (refusals.Faulty file fault)) = ⊥
Shapes odr seen live (Err (refusals.Limit which n)) = drafts_limit odr seen live ≡ Some (refusals.Limit which n)
Shapes odr seen live (Err refusals.NoMemory) = Unit {0}
