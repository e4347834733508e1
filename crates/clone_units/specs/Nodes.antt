-- A node by the entry of its object for which it stands.
use Rattle.std.specs.Prelude.{◌<◌, ℕ, ◌-◌, ◌==◌, ◌++◌, List, length, slice_get, Option, Some, None, if◌then◌else◌}
use Rattle.std.specs.Option.{option_map}
use Rattle.clone_values.specs.Images.{image_at}
use Rattle.dwarf_types.specs.declared.address.Span.{Span}
use Rattle.dwarf_types.specs.declared.analysis.Analysis.{Analysis}
use Rattle.dwarf_types.specs.declared.entry.Entry.{Entry}
use Rattle.dwarf_types.specs.declared.graph.Node.{Node}
use Rattle.dwarf_types.specs.declared.graph.Target.{Target}
use Rattle.dwarf_types.specs.declared.shape.Origin.{Origin}
use Rattle.dwarf_types.specs.LinkedGraph.{closing}
use Rattle.dwarf_types.specs.LinkedValues.{attrs_written}

-- the object of a node: origins count objects from 1
abbrev pub number_of_object : Origin → Option ℕ
number_of_object node = if node.object == 0 then None else Some (node.object - 1)

-- by the row that tells where references to the entries of the object lead
abbrev pub node_with : List (Option Target) → List Span → Origin → Entry → Node
node_with row spans origin e = record { parent = origin.parent; tag = e.tag; attrs = attrs_written (image_at row) None e ++ closing e spans }

abbrev pub node_at : Analysis → List (Option Target) → List Span → Origin → Option Node
node_at own row spans origin = option_map (node_with row spans origin) (slice_get own.entries origin.entry)

-- the object has the entry
abbrev pub IsEntryOf : Analysis → Origin → Type 0
IsEntryOf own origin = origin.entry < length own.entries
