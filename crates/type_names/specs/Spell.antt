-- The spelling of types: a text for a type that does not depend on the object in which it stands.
use Rattle.std.specs.Prelude.{ℕ, zero, suc, ◌+◌, ◌^◌, ◌==◌, ◌||◌, Bool, true, List, [], ◌∷◌, ◌++◌, map, length, slice_get, Option, Some, None, if◌then◌else◌, codes, nat_lt, nat_le}
use Rattle.std.specs.Fmt.{decimal}
use Rattle.std.specs.Option.{option_and_then}
use Rattle.ds_base.specs.DwarfNumbers as dw
use Rattle.dwarf_types.specs.declared.entry.Entry.{Entry}
use Rattle.dwarf_types.specs.declared.value.Value.{Value}
use Rattle.dwarf_types.specs.declared.value.Value.TheVariants as values
use Rattle.dwarf_types.specs.Forms.{is_flag}
use Rattle.dwarf_types.specs.Moves.{value_of}
use Rattle.type_names.specs.Tree.{above, children}
use Rattle.type_names.specs.Entries.{Text, is_type, own_name}

-- ---- texts that may not be there

-- one text and then the other, where both are there
infixr 40 ◌&◌
abbrev pub ◌&◌ : Option Text → Option Text → Option Text
(Some a) & (Some b) = Some (a ++ b)
_ & _ = None

-- the texts of a list, one after the other, where all are there
abbrev pub all_of : List (Option Text) → Option Text
all_of [] = Some []
all_of (text ∷ texts) = text & all_of texts

abbrev pub mark : Text → Option Text
mark text = Some text

-- ---- names

-- the name of an entry that others stand in, where it is a namespace or a type
abbrev pub scope_name : Entry → Option Text
scope_name e = if e.tag == dw.DW_TAG_namespace || is_type e.tag then own_name e else None

-- the names of the entries above it, each with `::`, and its own
abbrev pub qualified_name : List Entry → ℕ → Entry → Option Text
qualified_name entries k e = all_of (map (λ a. scope_name a & mark (codes "::")) (above entries k)) & own_name e

-- ---- types

-- how the spelling begins of a type that has a name of its own
abbrev pub named_by : ℕ → Text
named_by tag =
    if tag == dw.DW_TAG_union_type then codes "n "
    else (if tag == dw.DW_TAG_enumeration_type then codes "e "
    else (if tag == dw.DW_TAG_typedef then codes "t "
    else codes "s "))

-- how the spelling begins of a type that is made of one other type
abbrev pub made_by : ℕ → Option Text
made_by tag =
    if tag == dw.DW_TAG_pointer_type then mark (codes "*")
    else (if tag == dw.DW_TAG_reference_type then mark (codes "&")
    else (if tag == dw.DW_TAG_rvalue_reference_type then mark (codes "&&")
    else (if tag == dw.DW_TAG_const_type then mark (codes "c")
    else (if tag == dw.DW_TAG_volatile_type then mark (codes "w")
    else (if tag == dw.DW_TAG_restrict_type then mark (codes "r")
    else (if tag == dw.DW_TAG_atomic_type then mark (codes "a")
    else None))))))

-- the type to which an attribute leads; no attribute means void
abbrev pub spelled_target : (ℕ → Option Text) → Option Value → Option Text
spelled_target spelled None = mark (codes "void")
spelled_target spelled (Some (values.Ref k)) = spelled k
spelled_target spelled (Some _) = None

abbrev pub type_in : (ℕ → Option Text) → Entry → Option Text
type_in spelled e = spelled_target spelled (value_of dw.DW_AT_type e)

-- the type of a parameter, or three points for those that are not listed
abbrev pub parameter_in : (ℕ → Option Text) → Entry → Option Text
parameter_in spelled e =
    if e.tag == dw.DW_TAG_formal_parameter then type_in spelled e & mark (codes ";")
    else (if e.tag == dw.DW_TAG_unspecified_parameters then mark (codes "...;")
    else mark [])

-- the parameters among the children of entry k
abbrev pub parameters_in : (ℕ → Option Text) → List Entry → ℕ → Option Text
parameters_in spelled entries k = all_of (map (λ child. parameter_in spelled child.1) (children entries k))

-- a constant that bounds an array, and as many more; a flag is no constant
abbrev pub number_in : ℕ → ℕ → ℕ → Option Text
number_in form bits more = if is_flag form then None else (if nat_lt (bits + more) (2 ^ 64) then mark (decimal (bits + more)) else None)

-- a bound of an array, and as many more
abbrev pub bound_in : ℕ → Value → Option Text
bound_in more (values.Number form bits) = number_in form bits more
bound_in more _ = None

-- how many elements a subrange has, where it says so
abbrev pub count_in : Option Value → Option Value → Option Text
count_in (Some count) _ = bound_in 0 count
count_in None (Some upper) = bound_in 1 upper
count_in None None = mark []

-- how many elements a subrange has; an array has no other children
abbrev pub subrange_in : Entry → Option Text
subrange_in e =
    if e.tag == dw.DW_TAG_subrange_type then count_in (value_of dw.DW_AT_count e) (value_of dw.DW_AT_upper_bound e) & mark (codes ";")
    else None

abbrev pub subranges_in : List Entry → ℕ → Option Text
subranges_in entries k = all_of (map (λ child. subrange_in child.1) (children entries k))

-- the spelling of a type, given those of the types that it is made of
abbrev pub spelled_by : (ℕ → Option Text) → List Entry → ℕ → Entry → Option Text
spelled_by spelled entries k e =
    if e.tag == dw.DW_TAG_base_type then mark (codes "b ") & own_name e
    else (if e.tag == dw.DW_TAG_unspecified_type then mark (codes "u ") & own_name e
    else (if is_type e.tag then mark (named_by e.tag) & qualified_name entries k e
    else (if e.tag == dw.DW_TAG_ptr_to_member_type then mark (codes "m") & (spelled_target spelled (value_of dw.DW_AT_containing_type e) & (mark (codes ",") & type_in spelled e))
    else (if e.tag == dw.DW_TAG_array_type then mark (codes "[") & (subranges_in entries k & (mark (codes "]") & type_in spelled e))
    else (if e.tag == dw.DW_TAG_subroutine_type then mark (codes "(") & (parameters_in spelled entries k & (mark (codes ")") & type_in spelled e))
    else made_by e.tag & type_in spelled e)))))

-- the spelling of type k with at most so many types open, each of which may be one that passes the test
unfoldable pub spelled_within : ℕ → (ℕ → Bool) → List Entry → ℕ → Option Text
spelled_within zero may_open entries k = None
spelled_within (suc levels) may_open entries k =
    if may_open k then option_and_then (spelled_by (spelled_within levels may_open entries) entries k) (slice_get entries k) else None

abbrev pub most_levels : ℕ
most_levels = 64

abbrev pub not_too_long : Text → Option Text
not_too_long text = if nat_le (length text) 4096 then Some text else None

-- the spelling of type k, where all types that it opens pass the test
abbrev pub spelling : (ℕ → Bool) → List Entry → ℕ → Option Text
spelling may_open entries k = option_and_then not_too_long (spelled_within most_levels may_open entries k)

-- the spelled parameters of subprogram k
abbrev pub spelled_parameters : List Entry → ℕ → Option Text
spelled_parameters entries k = option_and_then not_too_long (parameters_in (spelled_within most_levels (λ _. true) entries) entries k)
