-- How many source files merged entries may name.
use Rattle.std.specs.Prelude.{◌<◌, ◌^◌, List, length, IfSome}
use Rattle.dwarf_types.specs.declared.analysis.Analysis.{Analysis}
use Rattle.dwarf_types.specs.declared.shape.Shape.{Shape}
use Rattle.link_graph.specs.Graph.{files_of, pool_of}

-- the source files that merged entries name have numbers of 64 bits
abbrev pub FilesFit : List Analysis → Shape → Type 0
FilesFit all shape = IfSome (pool_of shape) (λ unit. length (files_of all unit.nodes) < 2 ^ 64)
