-- The source files of merged entries have numbers of 64 bits where the line table of their unit is not longer.
use Rattle.std.proofs.Common.{◌≡◌, ◌^◌, ◌<◌, List, [], ◌∷◌, ◌++◌, length, length-append, slice_get, Option, Some, None, IfSome, refl, sym, ap, subst, ◌∙◌, arith}
use Rattle.std.specs.Option.{option_map_or}
use Rattle.std.proofs.lemmas.List.{length-map}
use Rattle.std.proofs.lemmas.Option.{same_Some}
use Rattle.dwarf_types.specs.declared.analysis.Analysis.{Analysis}
use Rattle.dwarf_types.specs.declared.graph.OutUnit.{OutUnit}
use Rattle.dwarf_types.specs.declared.shape.Shape.{Shape}
use Rattle.dwarf_types.specs.declared.shape.ShapeUnit.{ShapeUnit}
use Rattle.dwarf_types.specs.LinkedGraph.{linked_behind}
use Rattle.dwarf_types.specs.LinkedShape.{objects_in}
use Rattle.link_graph.specs.Graph.{files_of, graph_in, image_of, pool_of, pool_unit}
use Rattle.link_graph.specs.PoolFiles.{directories, file_written, first_file}
use Rattle.merged_laws.specs.Files.{FilesFit}

-- by the first unit of the graph
pub few_by_unit : (all : List Analysis) (shape : Shape) (unit : OutUnit) → slice_get (graph_in all shape).units 0 ≡ Some unit → IfSome unit.lines (λ lines. length lines.files < 2 ^ 64) → FilesFit all shape
few_by_unit all shape unit at few = go (pool_of shape) refl
  where
    go : (found : Option ShapeUnit) → pool_of shape ≡ found → IfSome found (λ pool. length (files_of all pool.nodes) < 2 ^ 64)
    go None none = tt
    go (Some pool) some =
        let files = files_of all pool.nodes in
        let its = pool_unit (image_of shape) all pool.version pool.nodes in
        let first : slice_get (graph_in all shape).units 0 ≡ Some its = ap (λ (found : Option ShapeUnit). slice_get (linked_behind (option_map_or (λ pool. pool_unit (image_of shape) all pool.version pool.nodes ∷ []) found []) (image_of shape) (objects_in all shape)).units 0) some in
        let same : unit ≡ its = same_Some unit its (sym at ∙ first) in
        let long = length-map (first_file pool.version files ++ files) (file_written (directories files)) in
        let small = subst (λ (u : OutUnit). IfSome u.lines (λ lines. length lines.files < 2 ^ 64)) same few in
        omega (arith, long, length-append (first_file pool.version files) files, small)
