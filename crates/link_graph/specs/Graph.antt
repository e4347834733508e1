-- The graph that a shape stands for: each node says what its entry says, and references lead where the shape tells.
use Rattle.std.specs.Prelude.{◌≡◌, ◌⊎◌, ℕ, ◌-◌, ◌==◌, List, [], ◌∷◌, ◌++◌, length, map, slice_get, Option, Some, None, if◌then◌else◌, codes}
use Rattle.std.specs.List.{All, filter_map, flat_map, list_any, zip}
use Rattle.std.specs.Option.{option_and_then, option_map, option_map_or}
use Rattle.ds_base.specs.DwarfNumbers.{DW_AT_language, DW_AT_name, DW_AT_stmt_list, DW_FORM_data2, DW_LANG_C_plus_plus, DW_TAG_compile_unit}
use Rattle.ds_base.specs.FirstUse.{once}
use Rattle.dwarf_types.specs.declared.analysis.Analysis.{Analysis}
use Rattle.dwarf_types.specs.declared.entry.Entry.{Entry}
use Rattle.dwarf_types.specs.declared.graph.Graph.{Graph}
use Rattle.dwarf_types.specs.declared.graph.Node.{Node}
use Rattle.dwarf_types.specs.declared.graph.OutUnit.{OutUnit}
use Rattle.dwarf_types.specs.declared.graph.OutValue.TheVariants as values
use Rattle.dwarf_types.specs.declared.graph.Target.{Target}
use Rattle.dwarf_types.specs.declared.shape.Origin.{Origin}
use Rattle.dwarf_types.specs.declared.shape.Shape.{Shape}
use Rattle.dwarf_types.specs.declared.shape.ShapeUnit.{ShapeUnit}
use Rattle.dwarf_types.specs.LinkedGraph.{linked_behind}
use Rattle.dwarf_types.specs.LinkedShape.{AreMarked, marks_in, objects_in, plain_in, shape_in}
use Rattle.dwarf_types.specs.LinkedUnits.{sources}
use Rattle.dwarf_types.specs.LinkedValues.{attrs_written}
use Rattle.link_graph.specs.PoolFiles.{SourceFile, files_named, number_among, same_file, table_of}

-- ---- the pool's unit

-- its root, which stands for no entry of an object: its name, its language, and its line table
abbrev pub pool_root_node : Node
pool_root_node =
    record {
      parent = None;
      tag = DW_TAG_compile_unit;
      attrs =
          record { name = DW_AT_name; value = values.Text (codes "__artificial_type_unit") }
          ∷ record { name = DW_AT_language; value = values.Number DW_FORM_data2 DW_LANG_C_plus_plus }
          ∷ record { name = DW_AT_stmt_list; value = values.Lines }
          ∷ [];
    }

-- an entry of an object
pub record Source : Type 0 where
  pub object : ℕ
  pub seen : Analysis
  pub entry : Entry

-- the entry for which a node stands, if it stands for one; objects are counted from 1
abbrev pub source_of : List Analysis → Origin → Option Source
source_of all origin =
    if origin.object == 0 then None
    else option_and_then (λ seen. option_map (λ e. record { object = origin.object - 1; seen = seen; entry = e }) (slice_get seen.entries origin.entry)) (slice_get all (origin.object - 1))

-- the source files that the entries of nodes name, by first use
abbrev pub files_of : List Analysis → List Origin → List SourceFile
files_of all origins = once same_file (flat_map (λ source. files_named source.seen source.entry) (filter_map (source_of all) origins))

-- what its entry says, moved; its source file has a number in the unit's own table
abbrev pub pool_node : (ℕ → ℕ → Option Target) → List Analysis → List SourceFile → Origin → Option Node
pool_node image all files origin =
    option_map (λ source. record {
      parent = origin.parent;
      tag = source.entry.tag;
      attrs = attrs_written (image source.object) (Some (number_among files source.seen source.entry.unit)) source.entry;
    }) (source_of all origin)

-- of a version: the root, and behind it the nodes that stand for entries
abbrev pub pool_unit : (ℕ → ℕ → Option Target) → List Analysis → ℕ → List Origin → OutUnit
pool_unit image all version origins =
    record {
      version = version;
      nodes = pool_root_node ∷ filter_map (pool_node image all (files_of all origins)) origins;
      lines = Some (table_of version (files_of all origins));
      ranges = [];
    }

-- ---- the graph

-- where a reference leads, as a shape tells
abbrev pub image_of : Shape → ℕ → ℕ → Option Target
image_of shape object k = option_and_then (λ images. option_and_then (λ image. image) (slice_get images k)) (slice_get shape.images object)

-- the pool's unit, where a shape has one: its root stands for no entry
abbrev pub pool_in : ShapeUnit → Option ShapeUnit
pool_in unit = option_and_then (λ root. if root.object == 0 then Some unit else None) (slice_get unit.nodes 0)

abbrev pub pool_of : Shape → Option ShapeUnit
pool_of shape = option_and_then pool_in (slice_get shape.units 0)

abbrev pub pools : List Analysis → Shape → List OutUnit
pools all shape = option_map_or (λ unit. pool_unit (image_of shape) all unit.version unit.nodes ∷ []) (pool_of shape) []

-- the units of a shape, behind the pool's if there is one, and the frames that the objects keep
abbrev pub graph_in : List Analysis → Shape → Graph
graph_in all shape = linked_behind (pools all shape) (image_of shape) (objects_in all shape)

-- ---- shapes

-- the version of the pool's unit before the units of the objects: 5 where one of these has it, else 4
abbrev pub pool_version : List ShapeUnit → ℕ
pool_version units = if list_any (λ unit. unit.version == 5) units then 5 else 4

-- the units of the objects of a shape
abbrev pub units_in : List Analysis → Shape → List ShapeUnit
units_in all shape = filter_map (shape_in (objects_in all shape)) (sources (objects_in all shape))

-- the unit of a shape that holds merged entries: all nodes but its root stand for entries
pub record IsPool (all : List Analysis) (shape : Shape) (unit : ShapeUnit) : Type 0 where
  pub root : Origin
  pub below : List Origin
  pub nodes : unit.nodes ≡ root ∷ below
  pub is_root : root.object ≡ 0
  pub version : unit.version ≡ pool_version (units_in all shape)
  pub each : All (λ origin. (source : Source) × (source_of all origin ≡ Some source)) below

-- A shape of these analyses: of its units the pool's comes first, if there is one, and the others are those of the entries that have nodes.
pub record IsShape (all : List Analysis) (shape : Shape) : Type 0 where
  pub marked : AreMarked all (marks_in shape)
  pub plain : shape.plain ≡ map plain_in (objects_in all shape)
  pub images : All (λ row. length row.1 ≡ length row.0.entries) (zip all shape.images)
  pub rows : length shape.images ≡ length all
  pub pool : List ShapeUnit
  pub is_pool : (pool ≡ []) ⊎ ((unit : ShapeUnit) × (pool ≡ unit ∷ []) × IsPool all shape unit)
  pub units : shape.units ≡ pool ++ units_in all shape
