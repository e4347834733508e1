-- The unit of an object of the generated program, entry by entry. Objects are numbered from 1; structures, pointers and functions of a unit from 0 to 99.
use Rattle.std.specs.Prelude.{ℕ, ◌+◌, ◌*◌, ◌%◌, List, [], ◌∷◌, ◌++◌, codes, map, None, Some}
use Rattle.std.specs.Fmt.{decimal}
use Rattle.std.specs.List.{flat_map, range_with_len}
use Rattle.ds_base.specs.DwarfNumbers.{DW_AT_artificial, DW_AT_byte_size, DW_AT_data_member_location, DW_AT_declaration, DW_AT_encoding, DW_AT_high_pc, DW_AT_language, DW_AT_linkage_name, DW_AT_location, DW_AT_low_pc, DW_AT_name, DW_AT_type, DW_FORM_data1, DW_FORM_data2, DW_FORM_data4, DW_FORM_flag_present, DW_LANG_C_plus_plus_14, DW_OP_fbreg, DW_TAG_base_type, DW_TAG_compile_unit, DW_TAG_formal_parameter, DW_TAG_member, DW_TAG_namespace, DW_TAG_pointer_type, DW_TAG_structure_type, DW_TAG_subprogram, DW_TAG_variable}
use Rattle.dwarf_types.specs.declared.graph.Node.{Node}
use Rattle.dwarf_types.specs.declared.graph.OutAttr.{OutAttr}
use Rattle.dwarf_types.specs.declared.graph.OutUnit.{OutUnit}
use Rattle.dwarf_types.specs.declared.graph.OutValue.{OutValue}
use Rattle.dwarf_types.specs.declared.graph.OutValue.TheVariants as values
use Rattle.dwarf_types.specs.declared.parts.ExprPart.TheVariants as parts

-- the numbers of structures, of pointers and of functions
unfoldable pub all_numbers : List ℕ
all_numbers = range_with_len 0 100

-- ---- names

-- `i.cc`
abbrev pub unit_name : ℕ → List ℕ
unit_name i = decimal i ++ codes ".cc"

-- the number by which structure j of object i is named
abbrev pub type_number : ℕ → ℕ → ℕ
type_number i j = (37 * i + 11 * j) % 1000

-- `S` and that number
abbrev pub structure_name : ℕ → ℕ → List ℕ
structure_name i j = codes "S" ++ decimal (type_number i j)

-- `m` and a number from 0
abbrev pub member_name : ℕ → List ℕ
member_name k = codes "m" ++ decimal k

-- `_ZN3gen1gE` and that number
abbrev pub linkage_name : ℕ → ℕ → List ℕ
linkage_name i j = codes "_ZN3gen1gE" ++ decimal (type_number i j)

-- `fi_j`
abbrev pub function_name : ℕ → ℕ → List ℕ
function_name i j = codes "f" ++ (decimal i ++ (codes "_" ++ decimal j))

-- ---- the numbers of nodes, in preorder

abbrev pub int_node : ℕ
int_node = 1

abbrev pub namespace_node : ℕ
namespace_node = 2

-- a structure has 8 members, and two subprograms with a parameter each
abbrev pub structure_node : ℕ → ℕ
structure_node j = 3 + 13 * j

abbrev pub f_node : ℕ → ℕ
f_node j = structure_node j + 9

abbrev pub g_node : ℕ → ℕ
g_node j = structure_node j + 11

abbrev pub pointer_node : ℕ → ℕ
pointer_node j = structure_node 100 + j

-- a function has 3 variables
abbrev pub function_node : ℕ → ℕ
function_node j = pointer_node 100 + 4 * j

-- ---- values and attributes

abbrev pub with : ℕ → OutValue → OutAttr
with name value = record { name = name; value = value }

abbrev pub names : List ℕ → OutAttr
names text = with DW_AT_name (values.Text text)

abbrev pub has_type : ℕ → OutAttr
has_type k = with DW_AT_type (values.Ref (record { unit = 0; node = k }))

abbrev pub constant : ℕ → ℕ → OutAttr
constant name n = with name (values.Number DW_FORM_data1 n)

abbrev pub flag : ℕ → OutAttr
flag name = with name (values.Number DW_FORM_flag_present 1)

abbrev pub node : ℕ → ℕ → List OutAttr → Node
node parent tag attrs = record { parent = Some parent; tag = tag; attrs = attrs }

-- ---- entries

abbrev pub unit_root : ℕ → Node
unit_root i = record { parent = None; tag = DW_TAG_compile_unit; attrs = names (unit_name i) ∷ with DW_AT_language (values.Number DW_FORM_data2 DW_LANG_C_plus_plus_14) ∷ [] }

-- a signed number (DW_ATE_signed, 5) of 4 bytes
abbrev pub int_type : Node
int_type = node 0 DW_TAG_base_type (names (codes "int") ∷ constant DW_AT_byte_size 4 ∷ constant DW_AT_encoding 5 ∷ [])

abbrev pub namespace : Node
namespace = node 0 DW_TAG_namespace (names (codes "gen") ∷ [])

abbrev pub structure : ℕ → ℕ → Node
structure i j = node namespace_node DW_TAG_structure_type (names (structure_name i j) ∷ constant DW_AT_byte_size 32 ∷ [])

-- its members, one behind the other
abbrev pub member : ℕ → ℕ → Node
member j k = node (structure_node j) DW_TAG_member (names (member_name k) ∷ has_type int_node ∷ constant DW_AT_data_member_location (4 * k) ∷ [])

-- and its subprograms, with the pointer to the structure as parameter
abbrev pub f_declaration : ℕ → Node
f_declaration j = node (structure_node j) DW_TAG_subprogram (names (codes "f") ∷ flag DW_AT_declaration ∷ [])

abbrev pub g_declaration : ℕ → ℕ → Node
g_declaration i j = node (structure_node j) DW_TAG_subprogram (names (codes "g") ∷ with DW_AT_linkage_name (values.Text (linkage_name i j)) ∷ flag DW_AT_declaration ∷ [])

abbrev pub this_parameter : ℕ → ℕ → Node
this_parameter parent j = node parent DW_TAG_formal_parameter (has_type (pointer_node j) ∷ flag DW_AT_artificial ∷ [])

abbrev pub structure_tree : ℕ → ℕ → List Node
structure_tree i j =
    structure i j
    ∷ (map (member j) (range_with_len 0 8) ++ (f_declaration j ∷ this_parameter (f_node j) j ∷ g_declaration i j ∷ this_parameter (g_node j) j ∷ []))

abbrev pub pointer : ℕ → Node
pointer j = node 0 DW_TAG_pointer_type (has_type (structure_node j) ∷ [])

-- a function of 16 bytes, one behind the other
abbrev pub function : ℕ → ℕ → Node
function i j =
    node 0 DW_TAG_subprogram (
    names (function_name i j) ∷ with DW_AT_low_pc (values.Address (16 * j)) ∷ with DW_AT_high_pc (values.Number DW_FORM_data4 16) ∷ []
    )

-- a variable of a function, so many bytes from the frame's base
abbrev pub variable : ℕ → List ℕ → ℕ → Node
variable j name offset = node (function_node j) DW_TAG_variable (names name ∷ has_type (structure_node j) ∷ with DW_AT_location (values.Expr (parts.Plain (DW_OP_fbreg ∷ offset ∷ []) ∷ [])) ∷ [])

abbrev pub function_tree : ℕ → ℕ → List Node
function_tree i j = function i j ∷ variable j (codes "a") 8 ∷ variable j (codes "b") 16 ∷ variable j (codes "c") 24 ∷ []

-- ---- the unit

-- the root, a base type, the namespace with its structures, the pointers, the functions
abbrev pub unit_nodes : ℕ → List Node
unit_nodes i = unit_root i ∷ int_type ∷ namespace ∷ (flat_map (structure_tree i) all_numbers ++ (map pointer all_numbers ++ flat_map (function_tree i) all_numbers))

abbrev pub unit_of : ℕ → OutUnit
unit_of i = record { version = 4; nodes = unit_nodes i; lines = None; ranges = [] }
