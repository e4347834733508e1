-- What the values of a well graph keep to.
use Rattle.std.specs.Prelude.{◌≡◌, ◌<◌, ◌^◌, ◌==◌, ◌||◌, ℕ, Bool, IsTrue, List, length, slice_get, Some}
use Rattle.std.specs.List.{All}
use Rattle.ds_base.specs.DwarfNumbers.{DW_AT_data_member_location, DW_AT_frame_base, DW_AT_location, DW_AT_ranges, DW_AT_return_addr, DW_AT_segment, DW_AT_static_link, DW_AT_string_length, DW_AT_use_location, DW_AT_vtable_elem_location, DW_FORM_block, DW_FORM_block1, DW_FORM_block2, DW_FORM_block4, DW_FORM_data1, DW_FORM_data2, DW_FORM_data4, DW_FORM_data8, DW_FORM_flag, DW_FORM_flag_present, DW_FORM_sdata, DW_FORM_udata}
use Rattle.dwarf_types.specs.declared.address.Span.{Span}
use Rattle.dwarf_types.specs.declared.graph.Graph.{Graph}
use Rattle.dwarf_types.specs.declared.graph.Node.{Node}
use Rattle.dwarf_types.specs.declared.graph.OutLocation.{OutLocation}
use Rattle.dwarf_types.specs.declared.graph.OutUnit.{OutUnit}
use Rattle.dwarf_types.specs.declared.graph.OutValue.{OutValue}
use Rattle.dwarf_types.specs.declared.graph.OutValue.TheVariants as values
use Rattle.dwarf_types.specs.declared.graph.Target.{Target}
use Rattle.dwarf_types.specs.Expressions.{expression_len}
use Rattle.dwarf_types.specs.Spelled.{AreBytes, AreTextBytes}
use Rattle.dwarf_types.specs.WholeParts.{IsWhole}

-- the eight forms of a number, and the numbers that each holds
pub data FitsForm (form bits : ℕ) : Type 0 where
  in_data1 : form ≡ DW_FORM_data1 → bits < 2 ^ 8 → FitsForm form bits
  in_data2 : form ≡ DW_FORM_data2 → bits < 2 ^ 16 → FitsForm form bits
  in_data4 : form ≡ DW_FORM_data4 → bits < 2 ^ 32 → FitsForm form bits
  in_data8 : form ≡ DW_FORM_data8 → bits < 2 ^ 64 → FitsForm form bits
  in_sdata : form ≡ DW_FORM_sdata → bits < 2 ^ 64 → FitsForm form bits
  in_udata : form ≡ DW_FORM_udata → bits < 2 ^ 64 → FitsForm form bits
  in_flag : form ≡ DW_FORM_flag → bits < 2 ^ 8 → FitsForm form bits
  in_flag_present : form ≡ DW_FORM_flag_present → bits ≡ 1 → FitsForm form bits

-- the four forms of a block, and the lengths that each holds
pub data FitsBlock (form len : ℕ) : Type 0 where
  in_block1 : form ≡ DW_FORM_block1 → len < 2 ^ 8 → FitsBlock form len
  in_block2 : form ≡ DW_FORM_block2 → len < 2 ^ 16 → FitsBlock form len
  in_block4 : form ≡ DW_FORM_block4 → len < 2 ^ 32 → FitsBlock form len
  in_block : form ≡ DW_FORM_block → len < 2 ^ 64 → FitsBlock form len

-- addresses that are some
pub record IsSpan (span : Span) : Type 0 where
  pub some : span.low < span.high
  pub fits : span.high < 2 ^ 64

-- in version 4 the length of its expression has two bytes
pub record IsLocation (version : ℕ) (nodes : List Node) (item : OutLocation) : Type 0 where
  pub span : IsSpan item.span
  pub whole : IsWhole nodes item.parts
  pub short : version ≡ 4 → expression_len item.parts < 2 ^ 16

-- a node of a unit that is there
pub record IsTarget (graph : Graph) (target : Target) : Type 0 where
  pub unit : OutUnit
  pub stands : slice_get graph.units target.unit ≡ Some unit
  pub inside : target.node < length unit.nodes

-- A value of a unit of a version with these nodes, whose references lead to targets of this kind. Constants of 16 bytes stand in units of version 5 alone.
abbrev pub IsValue : (Target → Type 0) → ℕ → List Node → OutValue → Type 0
IsValue MayLead version nodes (values.Address address) = address < 2 ^ 64
IsValue MayLead version nodes (values.Text text) = AreTextBytes text
IsValue MayLead version nodes (values.Number form bits) = FitsForm form bits
IsValue MayLead version nodes (values.Wide bytes) = (version ≡ 5) × (length bytes ≡ 16) × AreBytes bytes
IsValue MayLead version nodes (values.Block form bytes) = FitsBlock form (length bytes) × AreBytes bytes
IsValue MayLead version nodes (values.Expr expression) = IsWhole nodes expression
IsValue MayLead version nodes (values.Ref target) = MayLead target
IsValue MayLead version nodes (values.Ranges spans) = All IsSpan spans
IsValue MayLead version nodes (values.Locations items) = All (IsLocation version nodes) items
IsValue MayLead version nodes values.Lines = Unit {0}

-- the attributes whose section offset is a location list
abbrev pub has_locations : ℕ → Bool
has_locations name =
    name == DW_AT_location || (name == DW_AT_string_length || (name == DW_AT_return_addr
    || (name == DW_AT_data_member_location || (name == DW_AT_frame_base || (name == DW_AT_segment
    || (name == DW_AT_static_link || (name == DW_AT_use_location || name == DW_AT_vtable_elem_location)))))))

-- a list stands under an attribute of its kind alone
abbrev pub MayStand : ℕ → OutValue → Type 0
MayStand name (values.Ranges spans) = name ≡ DW_AT_ranges
MayStand name (values.Locations items) = IsTrue (has_locations name)
MayStand name _ = Unit {0}
