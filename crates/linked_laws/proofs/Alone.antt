-- A unit that is well with its targets is well by itself.
use Rattle.std.proofs.Common.{ℕ, List}
use Rattle.std.specs.List.{All}
use Rattle.std.proofs.lemmas.List.Elements.{All-weaker}
use Rattle.dwarf_types.specs.declared.graph.Node.{Node}
use Rattle.dwarf_types.specs.declared.graph.OutAttr.{OutAttr}
use Rattle.dwarf_types.specs.declared.graph.OutUnit.{OutUnit}
use Rattle.dwarf_types.specs.declared.graph.OutValue.{OutValue}
use Rattle.dwarf_types.specs.declared.graph.OutValue.TheVariants as values
use Rattle.dwarf_types.specs.declared.graph.Target.{Target}
use Rattle.dwarf_types.specs.Well.{IsWellAlone, IsWellUnit}
use Rattle.dwarf_types.specs.WellNodes.{IsAttribute, IsNode}
use Rattle.dwarf_types.specs.WellValues.{IsValue}

-- any target
abbrev Any : Target → Type 0
Any target = Unit {0}

module _ (MayLead : Target → Type 0) (version : ℕ) (nodes : List Node) where
  value_alone : (x : OutValue) → IsValue MayLead version nodes x → IsValue Any version nodes x
  value_alone (values.Address address) holds = holds
  value_alone (values.Text text) holds = holds
  value_alone (values.Number form bits) holds = holds
  value_alone (values.Wide bytes) holds = holds
  value_alone (values.Block form bytes) holds = holds
  value_alone (values.Expr expression) holds = holds
  value_alone (values.Ref target) holds = tt
  value_alone (values.Ranges spans) holds = holds
  value_alone (values.Locations items) holds = holds
  value_alone values.Lines holds = holds

  attribute_alone : (a : OutAttr) → IsAttribute MayLead version nodes a → IsAttribute Any version nodes a
  attribute_alone a is = record { some = is.some; fits = is.fits; kept = is.kept; value = value_alone a.value is.value; stands = is.stands }

  node_alone : (n : Node) → IsNode MayLead version nodes n → IsNode Any version nodes n
  node_alone n is = record { some = is.some; fits = is.fits; attrs = All-weaker (IsAttribute MayLead version nodes) (IsAttribute Any version nodes) attribute_alone n.attrs is.attrs }

pub unit_alone : (MayLead : Target → Type 0) (unit : OutUnit) → IsWellUnit MayLead unit → IsWellAlone unit
unit_alone MayLead unit is =
    record {
      version = is.version;
      root = is.root;
      below = is.below;
      nodes = is.nodes;
      is_root = is.is_root;
      preorder = is.preorder;
      no_lines = is.no_lines;
      each = All-weaker (IsNode MayLead unit.version unit.nodes) (IsNode Any unit.version unit.nodes) (node_alone MayLead unit.version unit.nodes) unit.nodes is.each;
      lines = is.lines;
      ranges = is.ranges;
    }
