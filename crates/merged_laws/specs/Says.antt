-- What the nodes of a linked graph say: each says what the entry says for which it stands in the shape.
use Rattle.std.specs.Prelude.{◌≡◌, false, List, [], ◌++◌, slice_get, Some, is_none}
use Rattle.dwarf_types.specs.declared.analysis.Analysis.{Analysis}
use Rattle.dwarf_types.specs.declared.graph.Node.{Node}
use Rattle.dwarf_types.specs.declared.graph.OutAttr.{OutAttr}
use Rattle.dwarf_types.specs.declared.graph.OutUnit.{OutUnit}
use Rattle.dwarf_types.specs.declared.graph.Target.{Target}
use Rattle.dwarf_types.specs.declared.shape.Origin.{Origin}
use Rattle.dwarf_types.specs.declared.shape.Shape.{Shape}
use Rattle.dwarf_types.specs.LinkedValues.{FileNumbers, attrs_written}
use Rattle.link_graph.specs.Graph.{Source, graph_in, image_of, source_of}
use Rattle.linked_laws.specs.Nodes.{node_at}
use Rattle.merged_laws.specs.SourceFiles.{KeepsFiles}

-- The node at a place says what its entry says, where references lead as the shape tells, and names the source files that its entry names. The root of a unit may say more, which is where its code lies.
pub record Says (seen : List Analysis) (shape : Shape) (target : Target) (origin : Origin) : Type 0 where
  pub source : Source
  pub its_source : source_of seen origin ≡ Some source
  pub node : Node
  pub stands : node_at (graph_in seen shape).units target ≡ Some node
  pub tag : node.tag ≡ source.entry.tag
  pub parent : node.parent ≡ origin.parent
  pub unit : OutUnit
  pub its_unit : slice_get (graph_in seen shape).units target.unit ≡ Some unit
  pub files : FileNumbers
  pub keeps_files : KeepsFiles unit source.seen source.entry files
  pub more : List OutAttr
  pub attrs : node.attrs ≡ attrs_written (image_of shape source.object) files source.entry ++ more
  pub no_more : is_none source.entry.parent ≡ false → more ≡ []
