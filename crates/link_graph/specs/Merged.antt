-- The shape of the linked graph with merged entries: which entries have a node of their own, where references lead, and the pool's unit before all others.
use Rattle.std.specs.Prelude.{ℕ, ◌+◌, ◌&&◌, Bool, List, [], ◌∷◌, ◌++◌, map, Option, None, if◌then◌else◌}
use Rattle.std.specs.List.{enumerate_from, filter_map}
use Rattle.std.specs.Option.{option_map}
use Rattle.dwarf_types.specs.declared.analysis.Analysis.{Analysis}
use Rattle.dwarf_types.specs.declared.graph.Target.{Target}
use Rattle.dwarf_types.specs.declared.shape.Origin.{Origin}
use Rattle.dwarf_types.specs.declared.shape.Shape.{Shape}
use Rattle.dwarf_types.specs.declared.shape.ShapeUnit.{ShapeUnit}
use Rattle.dwarf_types.specs.Kept.{kept_of}
use Rattle.dwarf_types.specs.LinkedShape.{plain_in, shape_in}
use Rattle.dwarf_types.specs.LinkedUnits.{Object, plain_target, sources}
use Rattle.odr_names.specs.Numbered.{objects_of, merged}
use Rattle.type_names.specs.Heads.{entries_of, is_pooled}
use Rattle.type_names.specs.Heads as heads
use Rattle.type_names.specs.Names.{Named, names}
use Rattle.type_names.specs.Paths.{path_of}
use Rattle.link_graph.specs.Graph.{pool_version}
use Rattle.link_graph.specs.Pool.{node_above, node_of_path, pool_names}

-- ---- the pool's unit

-- its root stands for no entry of an object
abbrev pub pool_root : Origin
pool_root = record { object = 0; entry = 0; parent = None }

-- the node of a winner, which stands for its entry
abbrev pub pool_origin : List Named → Named → Origin
pool_origin ns w = record { object = w.object; entry = w.entry; parent = node_above ns w.path }

-- there where anything is merged; of a version
abbrev pub pool_units : ℕ → List Named → List ShapeUnit
pool_units version [] = []
pool_units version (n ∷ ns) = record { version = version; nodes = pool_root ∷ map (pool_origin (n ∷ ns)) (pool_names (n ∷ ns)) } ∷ []

-- how many units stand before those of the objects
abbrev pub pool_count : List Named → ℕ
pool_count [] = 0
pool_count (n ∷ ns) = 1

-- ---- objects

-- which entries of an object are merged with others of their name
abbrev pub merged_in : Bool → heads.Object → List Bool
merged_in odr o = if odr then map (λ e. is_pooled o e.0) (enumerate_from 0 (entries_of o)) else []

abbrev pub kept_object : Bool → heads.Object → Object
kept_object odr o = record { seen = o.seen; kept = kept_of (entries_of o) o.live (merged_in odr o) }

-- what is linked of analyses with their live entries: whether entries are merged, and the names of those that are
module _ (odr : Bool) (seen : List Analysis) (live : List (List Bool)) where
  abbrev pub linked_names : List Named
  linked_names = names (merged odr seen live)

  abbrev pub kept_objects : List Object
  kept_objects = map (kept_object odr) (objects_of seen live)

  -- where a reference to entry k of an object leads: a merged entry's to the node of its path, another's to its own
  abbrev pub image_in : ℕ × heads.Object → ℕ → Option Target
  image_in o k =
      if odr && is_pooled o.1 k then option_map (λ node. record { unit = 0; node = node }) (node_of_path linked_names (path_of (o.0 + 1) o.1 k))
      else plain_target (pool_count linked_names) kept_objects o.0 k

  abbrev pub images_in : ℕ × heads.Object → List (Option Target)
  images_in o = map (λ e. image_in o e.0) (enumerate_from 0 (entries_of o.1))

  -- the units of the objects
  abbrev pub object_units : List ShapeUnit
  object_units = filter_map (shape_in kept_objects) (sources kept_objects)

  abbrev pub shape_of : Shape
  shape_of = record {
    units = pool_units (pool_version object_units) linked_names ++ object_units;
    plain = map plain_in kept_objects;
    images = map images_in (enumerate_from 0 (objects_of seen live));
  }
