-- What an entry says of itself that naming asks for.
use Rattle.std.specs.Prelude.{ℕ, ◌==◌, ◌||◌, ◌&&◌, not, Bool, true, false, List, [], ◌∷◌, length, Option, Some, None, is_some, if◌then◌else◌, codes}
use Rattle.std.specs.List.{list_any, starts_with}
use Rattle.std.specs.Option.{option_and_then, option_map_or}
use Rattle.ds_base.specs.DwarfNumbers as dw
use Rattle.dwarf_types.specs.declared.entry.Entry.{Entry}
use Rattle.dwarf_types.specs.declared.expr.Op.{Op}
use Rattle.dwarf_types.specs.declared.expr.PlainOp.{PlainOp}
use Rattle.dwarf_types.specs.declared.value.Value.{Value}
use Rattle.dwarf_types.specs.declared.value.Value.TheVariants as values
use Rattle.dwarf_types.specs.Moves.{value_of}

-- ---- texts

abbrev pub Text : Type 0
Text = List ℕ

-- a text that is not empty
abbrev pub text_in : Value → Option Text
text_in (values.Text text) = if length text == 0 then None else Some text
text_in _ = None

abbrev pub name_of : Entry → Option Text
name_of e = option_and_then text_in (value_of dw.DW_AT_name e)

abbrev pub linkage_of : Entry → Option Text
linkage_of e = option_and_then text_in (value_of dw.DW_AT_linkage_name e)

-- a text holds a part, which is not empty
abbrev pub holds : Text → Text → Bool
holds part [] = false
holds part (b ∷ bs) = starts_with (λ x y. x == y) (b ∷ bs) part || holds part bs

-- the name stands for something without a name
unfoldable pub is_made_up : Text → Bool
is_made_up name = holds (codes "(anonymous ") name || holds (codes "(lambda at ") name

-- its name, where types can be told apart by it
abbrev pub own_name : Entry → Option Text
own_name e = option_and_then (λ name. if is_made_up name then None else Some name) (name_of e)

-- ---- tags

abbrev pub is_type : ℕ → Bool
is_type tag = tag == dw.DW_TAG_class_type || (tag == dw.DW_TAG_structure_type || (tag == dw.DW_TAG_union_type || (tag == dw.DW_TAG_enumeration_type || tag == dw.DW_TAG_typedef)))

-- a type with a name
abbrev pub is_named_type : Entry → Bool
is_named_type e = is_type e.tag && is_some (name_of e)

abbrev pub is_template_parameter : ℕ → Bool
is_template_parameter tag = tag == dw.DW_TAG_template_type_parameter || (tag == dw.DW_TAG_template_value_parameter || (tag == dw.DW_TAG_GNU_template_template_param || tag == dw.DW_TAG_GNU_template_parameter_pack))

-- ---- what ties an entry to its own unit

-- an operation with an address field or a base type operand, or with one inside it
abbrev pub inner_is_tied : PlainOp → Bool
inner_is_tied op = is_some op.address || is_some op.base

abbrev pub op_is_tied : Op → Bool
op_is_tied op = is_some op.address || (is_some op.base || list_any inner_is_tied op.inner)

-- an address field, a section offset or a base type operand
abbrev pub is_field : Value → Bool
is_field (values.Address place) = true
is_field (values.Ranges spans) = true
is_field (values.Locations items) = true
is_field values.Lines = true
is_field (values.Offset n) = true
is_field (values.Expr ops) = list_any op_is_tied ops
is_field _ = false

abbrev pub has_field : Entry → Bool
has_field e = list_any (λ a. is_field a.value) e.attrs

-- a base type, or an entry with such a field
abbrev pub is_tied : Entry → Bool
is_tied e = e.tag == dw.DW_TAG_base_type || has_field e

-- a number other than 0
abbrev pub is_set : Value → Bool
is_set (values.Number form bits) = not (bits == 0)
is_set _ = false

-- a declaration of a type, as its flag says
abbrev pub is_declaration : Entry → Bool
is_declaration e = is_type e.tag && option_map_or is_set (value_of dw.DW_AT_declaration e) false
