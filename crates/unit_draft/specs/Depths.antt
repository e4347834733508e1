-- How deep each node of a unit stands.
use Rattle.std.specs.Prelude.{ℕ, List, length, map}
use Rattle.std.specs.List.{range_with_len}
use Rattle.dwarf_types.specs.declared.graph.Node.{Node}
use Rattle.dwarf_types.specs.Entries.{depth_of}

abbrev pub depths_of : List Node → List ℕ
depths_of nodes = map (depth_of nodes) (range_with_len 0 (length nodes))
