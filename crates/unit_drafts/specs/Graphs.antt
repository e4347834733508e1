-- The graph that is linked of objects with the marks of their live entries.
use Rattle.std.specs.Prelude.{◌≡◌, Bool, List, length}
use Rattle.dwarf_types.specs.declared.analysis.Analysis.{Analysis}
use Rattle.dwarf_types.specs.declared.graph.Graph.{Graph}
use Rattle.link_graph.specs.Graph.{graph_in}
use Rattle.link_graph.specs.Merged.{shape_of}
use Rattle.name_bids.specs.Tables.{IsTable}
use Rattle.type_names.specs.Names.{Named}
use Rattle.type_pool.specs.declared.closed.ClosedPool.{ClosedPool}

-- the graph that is linked: in which exactly the live entries stand, each once, or once for all of one name where these are merged
abbrev pub graph_of : Bool → List Analysis → List (List Bool) → Graph
graph_of odr seen live = graph_in seen (shape_of odr seen live)

-- the closed table in which the names that are merged were bid for
pub record IsClosed (names : List Named) (closed : ClosedPool) : Type 0 where
  pub table : IsTable names closed.state
  pub book : closed.names ≡ length names
