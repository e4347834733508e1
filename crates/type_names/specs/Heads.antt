-- Which entries are pooled: merged with those of the same name in other objects.
use Rattle.std.specs.Prelude.{ℕ, ◌==◌, ◌||◌, ◌&&◌, not, Bool, false, List, slice_get, slice_index_or, Option, None, is_some, if◌then◌else◌, codes}
use Rattle.std.specs.List.{enumerate_from, list_any, list_all}
use Rattle.std.specs.Option.{option_and_then, option_map_or}
use Rattle.ds_base.specs.DwarfNumbers as dw
use Rattle.dwarf_types.specs.declared.analysis.Analysis.{Analysis}
use Rattle.dwarf_types.specs.declared.entry.Entry.{Entry}
use Rattle.type_names.specs.Tree.{above, children, is_at_top, is_below, lineage, parent_of, subtree}
use Rattle.type_names.specs.Entries.{Text, has_field, holds, is_made_up, is_named_type, is_template_parameter, is_tied, is_type, name_of}
use Rattle.type_names.specs.Spell.{made_by, spelling}

-- an object: its analysis, and which of its entries are live
pub record Object : Type 0 where
  pub seen : Analysis
  pub live : List Bool

abbrev pub entries_of : Object → List Entry
entries_of o = o.seen.entries

abbrev pub is_live : Object → ℕ → Bool
is_live o k = slice_index_or o.live k false

-- C++ and Objective-C++, whose types have one definition in the whole program
abbrev pub has_one_definition : ℕ → Bool
has_one_definition language = language == dw.DW_LANG_C_plus_plus || (language == dw.DW_LANG_ObjC_plus_plus || (language == dw.DW_LANG_C_plus_plus_03 || (language == dw.DW_LANG_C_plus_plus_11 || language == dw.DW_LANG_C_plus_plus_14)))

-- a live entry of a unit that takes part in merging
abbrev pub takes_part : Object → ℕ → Entry → Bool
takes_part o k e = is_live o k && option_map_or (λ unit. has_one_definition unit.language) (slice_get o.seen.units e.unit) false

-- no entry of its subtree is tied to its own unit
abbrev pub is_clean : Object → ℕ → Bool
is_clean o k = list_all (λ e. not (is_tied e)) (subtree (entries_of o) k)

-- ---- named heads

abbrev pub has_template_parameter : List Entry → ℕ → Bool
has_template_parameter entries k = list_any (λ child. is_template_parameter child.1.tag) (children entries k)

-- a name by which a type can be told: a template is told by a name with its arguments alone
abbrev pub tells : Object → ℕ → Text → Bool
tells o k name = not (is_made_up name) && (holds (codes "<") name || not (has_template_parameter (entries_of o) k))

-- a named namespace that is not tied to its unit
abbrev pub is_open_namespace : Entry → Bool
is_open_namespace e = e.tag == dw.DW_TAG_namespace && (is_some (name_of e) && not (has_field e))

-- its parent is the unit, or is reached by open namespaces alone
abbrev pub is_reached : List Entry → ℕ → Entry → Bool
is_reached entries k e = is_some e.parent && list_all is_open_namespace (above entries k)

-- a class, structure, union, enumeration or typedef that is told by its name and by namespaces alone
abbrev pub is_named_head_entry : Object → ℕ → Entry → Bool
is_named_head_entry o k e =
    takes_part o k e && (is_type e.tag && (option_map_or (tells o k) (name_of e) false && (is_reached (entries_of o) k e && is_clean o k)))

unfoldable pub is_named_head : Object → ℕ → Bool
is_named_head o k = option_map_or (is_named_head_entry o k) (slice_get (entries_of o) k) false

-- ---- derived heads

abbrev pub is_derived : ℕ → Bool
is_derived tag = is_some (made_by tag) || (tag == dw.DW_TAG_ptr_to_member_type || (tag == dw.DW_TAG_array_type || tag == dw.DW_TAG_subroutine_type))

abbrev pub is_derived_attribute : ℕ → Bool
is_derived_attribute name = name == dw.DW_AT_sibling || (name == dw.DW_AT_byte_size || (name == dw.DW_AT_containing_type || (name == dw.DW_AT_prototyped || name == dw.DW_AT_type)))

abbrev pub is_derived_at_top : List Entry → Entry → Bool
is_derived_at_top entries e = is_derived e.tag && is_at_top entries e

-- it stands in the subtree of a named head
abbrev pub is_in_named_head : Object → ℕ → Bool
is_in_named_head o k = list_any (is_named_head o) (lineage (entries_of o) k)

-- a derived type below its unit of which nothing else is told
abbrev pub is_plain_derived : List Entry → Entry → Bool
is_plain_derived entries e = is_derived_at_top entries e && list_all (λ a. is_derived_attribute a.name) e.attrs

-- what the spelling of a derived head may open: a type that means the same in every object
abbrev pub is_common_entry : Object → ℕ → Entry → Bool
is_common_entry o k e =
    e.tag == dw.DW_TAG_base_type || (e.tag == dw.DW_TAG_unspecified_type
    || ((is_named_type e && is_in_named_head o k) || is_plain_derived (entries_of o) e))

abbrev pub is_common : Object → ℕ → Bool
is_common o k = option_map_or (is_common_entry o k) (slice_get (entries_of o) k) false

-- a derived head, where it can be spelled
abbrev pub may_be_derived : Object → ℕ → Entry → Bool
may_be_derived o k e = takes_part o k e && (is_derived_at_top (entries_of o) e && is_clean o k)

-- the spelling of a derived head, which is its name
abbrev pub derived_name_entry : Object → ℕ → Entry → Option Text
derived_name_entry o k e = if may_be_derived o k e then spelling (is_common o) (entries_of o) k else None

unfoldable pub derived_name : Object → ℕ → Option Text
derived_name o k = option_and_then (derived_name_entry o k) (slice_get (entries_of o) k)

-- ---- pooled entries

abbrev pub is_head : Object → ℕ → Bool
is_head o k = is_named_head o k || is_some (derived_name o k)

-- it stands in the subtree of a head
abbrev pub is_in_head : Object → ℕ → Bool
is_in_head o k = list_any (is_head o) (lineage (entries_of o) k)

-- a head stands below it, and it is no unit
abbrev pub is_above_head : Object → ℕ → Bool
is_above_head o a = is_some (parent_of (entries_of o) a) && list_any (λ e. is_head o e.0 && is_below (entries_of o) a e.0) (enumerate_from 0 (entries_of o))

-- the live entries in the subtrees of heads, and the namespaces above heads
abbrev pub is_pooled : Object → ℕ → Bool
is_pooled o k = (is_live o k && is_in_head o k) || is_above_head o k
