-- The shape of the linked graph: its units with the entry for which each node stands, and the node of each entry.
use Rattle.std.specs.Prelude.{◌≡◌, ℕ, ◌+◌, Bool, List, map, length, slice_get, Option, is_some}
use Rattle.std.specs.List.{All, zip}
use Rattle.std.specs.Option.{option_and_then, option_map}
use Rattle.dwarf_types.specs.declared.analysis.Analysis.{Analysis}
use Rattle.dwarf_types.specs.declared.entry.Entry.{Entry}
use Rattle.dwarf_types.specs.declared.entry.InUnit.{InUnit}
use Rattle.dwarf_types.specs.declared.shape.Origin.{Origin}
use Rattle.dwarf_types.specs.declared.shape.Shape.{Shape}
use Rattle.dwarf_types.specs.declared.shape.ShapeUnit.{ShapeUnit}
use Rattle.dwarf_types.specs.LinkedUnits.{Object, Source, kept_entries, node_number, numbered, parent_node}

-- ---- objects

-- analyses with their marks, which are as many, and of each as many as it has entries
pub record AreMarked (seen : List Analysis) (marks : List (List Bool)) : Type 0 where
  pub each : length marks ≡ length seen
  pub whole : All (λ object. length object.1 ≡ length object.0.entries) (zip seen marks)

abbrev pub objects_of : List Analysis → List (List Bool) → List Object
objects_of seen marks = map (λ object. record { seen = object.0; kept = object.1 }) (zip seen marks)

-- ---- shapes

abbrev pub origin_of : ℕ → Object → ℕ → ℕ × Entry → Origin
origin_of object o u e = record { object = object + 1; entry = e.0; parent = parent_node o u e.1 }

abbrev pub unit_shape : Source → Object → InUnit → ShapeUnit
unit_shape source o unit = record { version = unit.version; nodes = map (origin_of source.object o source.unit) (kept_entries o source.unit) }

abbrev pub shape_in : List Object → Source → Option ShapeUnit
shape_in objects source = option_and_then (λ o. option_map (unit_shape source o) (slice_get o.seen.units source.unit)) (slice_get objects source.object)

-- the node of each entry of an object in its own unit, if it has one
abbrev pub plain_in : Object → List (Option ℕ)
plain_in o = map (λ e. node_number o e.1.unit e.0) (numbered o)

-- ---- the objects of a shape

-- which entries have a node in their own unit
abbrev pub marks_in : Shape → List (List Bool)
marks_in shape = map (λ plain. map is_some plain) shape.plain

abbrev pub objects_in : List Analysis → Shape → List Object
objects_in seen shape = objects_of seen (marks_in shape)
