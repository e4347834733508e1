-- A well graph: what every linked graph keeps to.
use Rattle.std.specs.Prelude.{◌≡◌, ◌⊎◌, ℕ, false, List, ◌∷◌, slice_get, Some, IfSome}
use Rattle.std.specs.List.{All}
use Rattle.dwarf_types.specs.declared.graph.Graph.{Graph}
use Rattle.dwarf_types.specs.declared.graph.Node.{Node}
use Rattle.dwarf_types.specs.declared.graph.OutUnit.{OutUnit}
use Rattle.dwarf_types.specs.declared.graph.Target.{Target}
use Rattle.dwarf_types.specs.WellLines.{IsLineTable, IsFrame}
use Rattle.dwarf_types.specs.WellNodes.{IsNode, IsPreorderParent, has_lines}
use Rattle.dwarf_types.specs.WellRoots.{IsRoot}
use Rattle.dwarf_types.specs.WellValues.{IsSpan, IsTarget}

-- a unit whose references lead to targets of this kind
pub record IsWellUnit (MayLead : Target → Type 0) (unit : OutUnit) : Type 0 where
  pub version : (unit.version ≡ 4) ⊎ (unit.version ≡ 5)
  -- the root, and behind it all other nodes, which stand below it
  pub root : Node
  pub below : List Node
  pub nodes : unit.nodes ≡ root ∷ below
  pub is_root : IsRoot unit root
  -- node k of these stands right behind node k of the unit
  pub preorder : (k : ℕ) (node : Node) → slice_get below k ≡ Some node → IsPreorderParent unit.nodes k node.parent
  pub no_lines : All (λ node. has_lines node ≡ false) below
  pub each : All (IsNode MayLead unit.version unit.nodes) unit.nodes
  pub lines : IfSome unit.lines (IsLineTable unit.version)
  pub ranges : All IsSpan unit.ranges

-- a unit by itself: where its references lead is for the graph to say
abbrev pub IsWellAlone : OutUnit → Type 0
IsWellAlone = IsWellUnit (λ target. Unit {0})

pub record IsWell (graph : Graph) : Type 0 where
  pub units : All (IsWellUnit (IsTarget graph)) graph.units
  pub frames : All IsFrame graph.frames
