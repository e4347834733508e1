-- What the roots of a well graph keep to.
use Rattle.std.specs.Prelude.{◌≡◌, ◌==◌, ◌||◌, ◌&&◌, not, ℕ, Bool, true, false, List, [], ◌∷◌, ◌++◌, None, is_some, if◌then◌else◌}
use Rattle.std.specs.List.{list_any}
use Rattle.ds_base.specs.DwarfNumbers.{DW_AT_dwo_name, DW_AT_GNU_dwo_name, DW_AT_high_pc, DW_AT_low_pc, DW_AT_ranges, DW_AT_stmt_list, DW_TAG_compile_unit}
use Rattle.dwarf_types.specs.declared.address.Span.{Span}
use Rattle.dwarf_types.specs.declared.graph.Node.{Node}
use Rattle.dwarf_types.specs.declared.graph.OutAttr.{OutAttr}
use Rattle.dwarf_types.specs.declared.graph.OutUnit.{OutUnit}
use Rattle.dwarf_types.specs.declared.graph.OutValue.TheVariants as values
use Rattle.dwarf_types.specs.WellNodes.{is_lines, has_lines}

-- the root is no skeleton of a unit that stands in another file
abbrev pub is_split : ℕ → Bool
is_split name = name == DW_AT_dwo_name || name == DW_AT_GNU_dwo_name

-- the addresses of the unit's own code
abbrev pub is_code_range : ℕ → Bool
is_code_range name = name == DW_AT_low_pc || (name == DW_AT_high_pc || name == DW_AT_ranges)

abbrev pub HasNone : (ℕ → Bool) → List OutAttr → Type 0
HasNone names attrs = list_any (λ a. names a.name) attrs ≡ false

-- a low_pc of 0, from which the addresses of the unit's lists count, and its ranges
abbrev pub closing_pair : List Span → List OutAttr
closing_pair spans = record { name = DW_AT_low_pc; value = values.Address 0 } ∷ record { name = DW_AT_ranges; value = values.Ranges spans } ∷ []

-- a root's attributes end with the ranges of its unit, or neither has any
pub data EndsWith (spans : List Span) (attrs : List OutAttr) : Type 0 where
  without_ranges : spans ≡ [] → HasNone is_code_range attrs → EndsWith spans attrs
  with_ranges : (before : List OutAttr) → attrs ≡ before ++ closing_pair spans → HasNone is_code_range before → EndsWith spans attrs

-- a line table is named by the first stmt_list alone: by nothing before it, and by nothing behind it
abbrev pub names_lines_first : List OutAttr → Bool
names_lines_first [] = true
names_lines_first (a ∷ attrs) = if a.name == DW_AT_stmt_list then not (list_any (λ b. is_lines b.value) attrs) else (not (is_lines a.value) && names_lines_first attrs)

pub record IsRoot (unit : OutUnit) (root : Node) : Type 0 where
  pub parent : root.parent ≡ None
  pub tag : root.tag ≡ DW_TAG_compile_unit
  pub whole : HasNone is_split root.attrs
  pub ends : EndsWith unit.ranges root.attrs
  pub stmt_list : names_lines_first root.attrs ≡ true
  pub lines : is_some unit.lines ≡ has_lines root
