-- The nodes of entries that are written: where references to them lead, and what stands there.
use Rattle.std.specs.Prelude.{◌≡◌, ℕ, ◌+◌, true, List, ◌++◌, length, slice_get, Option, Some}
use Rattle.std.specs.List.{filter_map}
use Rattle.std.specs.Option.{ForSome, option_and_then}
use Rattle.dwarf_types.specs.declared.entry.Entry.{Entry}
use Rattle.dwarf_types.specs.declared.graph.Node.{Node}
use Rattle.dwarf_types.specs.declared.graph.OutUnit.{OutUnit}
use Rattle.dwarf_types.specs.declared.graph.Target.{Target}
use Rattle.dwarf_types.specs.declared.shape.Origin.{Origin}
use Rattle.dwarf_types.specs.declared.shape.ShapeUnit.{ShapeUnit}
use Rattle.dwarf_types.specs.LinkedGraph.{linked_behind, node_of}
use Rattle.dwarf_types.specs.LinkedShape.{shape_in}
use Rattle.dwarf_types.specs.LinkedUnits.{Object, is_kept, plain_target, sources}
use Rattle.dwarf_types.specs.Live.{Stands}

-- the node at a place
abbrev pub node_at : List OutUnit → Target → Option Node
node_at units target = option_and_then (λ unit. slice_get unit.nodes target.node) (slice_get units target.unit)

-- the entry for which the node at a place stands
abbrev pub origin_at : List ShapeUnit → Target → Option Origin
origin_at units target = option_and_then (λ unit. slice_get unit.nodes target.node) (slice_get units target.unit)

module _ (objects : List Object) (i k : ℕ) where
  -- entry k of object i is written
  pub record IsKeptEntry (o : Object) (e : Entry) : Type 0 where
    pub object : slice_get objects i ≡ Some o
    pub stands : Stands o.seen.entries k e
    pub kept : is_kept o k ≡ true

  -- A reference to it leads to a node that says what it says. The parent of this node is the node of the entry's parent, if that is written.
  pub record HasNode (units : List OutUnit) (image : ℕ → ℕ → Option Target) (o : Object) (e : Entry) : Type 0 where
    pub target : Target
    pub leads : plain_target (length units) objects i k ≡ Some target
    pub node : Node
    pub stands : node_at (linked_behind units image objects).units target ≡ Some node
    pub says : node ≡ node_of (image i) o e.unit (k, e)
    pub below : ForSome e.parent (λ p. is_kept o p ≡ true
        → (above : ℕ) × (node.parent ≡ Some above) × (plain_target (length units) objects i p ≡ Some (record { unit = target.unit; node = above })))

  -- behind other units of a shape, a reference to it leads to the node that stands for it
  pub record HasOrigin (before : List ShapeUnit) : Type 0 where
    pub target : Target
    pub leads : plain_target (length before) objects i k ≡ Some target
    pub origin : Origin
    pub stands : origin_at (before ++ filter_map (shape_in objects) (sources objects)) target ≡ Some origin
    pub object : origin.object ≡ i + 1
    pub entry : origin.entry ≡ k

-- the node at a place stands for an entry that is written, and references to that entry lead there; so many units stand before those of the objects
pub record IsNodeOfEntry (objects : List Object) (first : ℕ) (target : Target) (origin : Origin) : Type 0 where
  pub object : ℕ
  pub counted : origin.object ≡ object + 1
  pub o : Object
  pub e : Entry
  pub is : IsKeptEntry objects object origin.entry o e
  pub leads : plain_target first objects object origin.entry ≡ Some target
