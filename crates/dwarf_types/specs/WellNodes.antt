-- What the nodes of a well graph keep to.
use Rattle.std.specs.Prelude.{◌≡◌, ◌<◌, ◌≤◌, ◌^◌, ◌==◌, ◌||◌, ℕ, zero, suc, Bool, true, false, List, slice_get, Option, Some}
use Rattle.std.specs.List.{All, list_any}
use Rattle.ds_base.specs.DwarfNumbers.{DW_AT_addr_base, DW_AT_loclists_base, DW_AT_rnglists_base, DW_AT_sibling, DW_AT_str_offsets_base}
use Rattle.dwarf_types.specs.declared.graph.Node.{Node}
use Rattle.dwarf_types.specs.declared.graph.OutAttr.{OutAttr}
use Rattle.dwarf_types.specs.declared.graph.OutValue.{OutValue}
use Rattle.dwarf_types.specs.declared.graph.OutValue.TheVariants as values
use Rattle.dwarf_types.specs.declared.graph.Target.{Target}
use Rattle.dwarf_types.specs.WellValues.{IsValue, MayStand}

-- ---- the tree

-- n parents up from node k stands node a
abbrev pub IsUp : List Node → ℕ → ℕ → ℕ → Type 0
IsUp nodes zero k a = a ≡ k
IsUp nodes (suc n) k a = (node : Node) × (p : ℕ) × (slice_get nodes k ≡ Some node) × (node.parent ≡ Some p) × IsUp nodes n p a

-- the parent of a node that stands right behind node k: that node, or one above it
pub record IsPreorderParent (nodes : List Node) (k : ℕ) (parent : Option ℕ) : Type 0 where
  pub number : ℕ
  pub is : parent ≡ Some number
  pub earlier : number ≤ k
  pub steps : ℕ
  pub up : IsUp nodes steps k number

-- ---- attributes

-- attributes that are always dropped: they speak of how the input was laid out
abbrev pub is_dropped : ℕ → Bool
is_dropped name =
    name == DW_AT_sibling || (name == DW_AT_str_offsets_base || (name == DW_AT_addr_base
    || (name == DW_AT_rnglists_base || name == DW_AT_loclists_base)))

-- the references lead to targets of this kind
pub record IsAttribute (MayLead : Target → Type 0) (version : ℕ) (nodes : List Node) (attr : OutAttr) : Type 0 where
  pub some : 0 < attr.name
  pub fits : attr.name < 2 ^ 16
  pub kept : is_dropped attr.name ≡ false
  pub value : IsValue MayLead version nodes attr.value
  pub stands : MayStand attr.name attr.value

abbrev pub is_lines : OutValue → Bool
is_lines values.Lines = true
is_lines _ = false

-- the node names a line table
abbrev pub has_lines : Node → Bool
has_lines node = list_any (λ a. is_lines a.value) node.attrs

pub record IsNode (MayLead : Target → Type 0) (version : ℕ) (nodes : List Node) (node : Node) : Type 0 where
  pub some : 0 < node.tag
  pub fits : node.tag < 2 ^ 16
  pub attrs : All (IsAttribute MayLead version nodes) node.attrs
