-- What is linked of two small objects: the names of their types and the winners of these, the nodes of each unit, and where references lead.
use Rattle.std.proofs.Common.{◌≡◌, ◌&&◌, not, ℕ, Bool, true, false, List, [], ◌∷◌, map, length, Option, Some, None, refl}
use Rattle.std.specs.Prelude.{codes}
use Rattle.std.specs.Fmt.{digits}
use Rattle.std.specs.List.{position}
use Rattle.std.specs.Option.{option_map}
use Rattle.ds_base.specs.DwarfNumbers.{DW_AT_const_value, DW_AT_declaration, DW_AT_name, DW_AT_type, DW_LANG_C_plus_plus, DW_LANG_C99, DW_TAG_base_type, DW_TAG_compile_unit, DW_TAG_const_type, DW_TAG_formal_parameter, DW_TAG_member, DW_TAG_namespace, DW_TAG_pointer_type, DW_TAG_reference_type, DW_TAG_structure_type, DW_TAG_subprogram, DW_TAG_template_type_parameter, DW_TAG_variable}
use Rattle.dwarf_types.specs.declared.entry.Attr.{Attr}
use Rattle.dwarf_types.specs.declared.entry.Entry.{Entry}
use Rattle.dwarf_types.specs.declared.shape.ShapeUnit.{ShapeUnit}
use Rattle.dwarf_types.specs.declared.value.Value.{Value}
use Rattle.dwarf_types.specs.declared.value.Value.TheVariants as values
use Rattle.dwarf_types.specs.Tree.{lineage}
use Rattle.type_names.specs.Entries.{is_made_up}
use Rattle.type_names.specs.Heads.{Object, derived_name, is_named_head}
use Rattle.type_names.specs.Names.{Named}
use Rattle.type_names.specs.Spell.{spelled_within}
use Rattle.link_graph.specs.Merged.{linked_names, shape_of}
use Rattle.link_graph.specs.Pool.{is_outbid, preorder, same_path}

-- ---- objects

abbrev attr : ℕ → Value → Attr
attr name value = record { name = name; form = 0; value = value }

abbrev root : Entry
root = record { parent = None; unit = 0; place = 0; tag = DW_TAG_compile_unit; attrs = [] }

abbrev entry : ℕ → ℕ → List Attr → Entry
entry parent tag attrs = record { parent = Some parent; unit = 0; place = 0; tag = tag; attrs = attrs }

-- one that says nothing
abbrev bare : ℕ → ℕ → Entry
bare parent tag = entry parent tag []

abbrev called : ℕ → ℕ → List ℕ → Entry
called parent tag name = entry parent tag (attr DW_AT_name (values.Text name) ∷ [])

abbrev of_type : ℕ → ℕ → ℕ → Entry
of_type parent tag target = entry parent tag (attr DW_AT_type (values.Ref target) ∷ [])

abbrev structure : ℕ → List ℕ → Entry
structure parent name = called parent DW_TAG_structure_type name

-- a structure that is only declared
abbrev declared : List ℕ → Entry
declared name = entry 0 DW_TAG_structure_type (attr DW_AT_name (values.Text name) ∷ attr DW_AT_declaration (values.Number 0 1) ∷ [])

abbrev int : Entry
int = called 0 DW_TAG_base_type (codes "int")

-- a constant of a type, by which that is live
abbrev user : ℕ → Entry
user target = entry 0 DW_TAG_variable (attr DW_AT_const_value (values.Number 0 7) ∷ attr DW_AT_type (values.Ref target) ∷ [])

-- the object of these entries, which are one unit of a language, and are all live or all dead
abbrev object : ℕ → Bool → List Entry → Object
object language live entries = record {
  seen = record { units = record { first = 0; count = length entries; version = 4; language = language; lines = None } ∷ []; entries = entries; code = []; frames = [] };
  live = map (λ e. live) entries;
}

abbrev cpp : List Entry → Object
cpp entries = object DW_LANG_C_plus_plus true entries

-- ---- what is told of objects

-- a name: its object, counted from 1, its entry, its bid, and the number of the name that wins its path
pub record Name : Type 0 where
  pub object : ℕ
  pub entry : ℕ
  pub bid : ℕ
  pub winner : Option ℕ

abbrev name : ℕ → ℕ → ℕ → ℕ → Name
name object entry bid winner = record { object = object; entry = entry; bid = bid; winner = Some winner }

-- the first of some names that has the path and is not outbid
abbrev winner_of : List Named → Named → Option ℕ
winner_of names n = position (λ w. same_path w.path n.path && not (is_outbid names w)) names

abbrev told : List Named → List Name
told names = map (λ n. record { object = n.object; entry = n.entry; bid = n.bid; winner = winner_of names n }) names

abbrev names_of : List Object → List Name
names_of objects = told (linked_names true (map (λ o. o.seen) objects) (map (λ o. o.live) objects))

-- the object and the entry for which each node of a unit stands; the root of merged types stands for none
abbrev nodes_in : ShapeUnit → List (ℕ × ℕ)
nodes_in unit = map (λ origin. (origin.object, origin.entry)) unit.nodes

-- the nodes of the units, where types are merged or not
abbrev nodes_of : Bool → List Object → List (List (ℕ × ℕ))
nodes_of odr objects = map nodes_in (shape_of odr (map (λ o. o.seen) objects) (map (λ o. o.live) objects)).units

-- the unit and the node to which a reference to each entry leads
abbrev targets_of : List Object → List (List (Option (ℕ × ℕ)))
targets_of objects = map (map (option_map (λ target. (target.unit, target.node)))) (shape_of true (map (λ o. o.seen) objects) (map (λ o. o.live) objects)).images

-- ---- a definition goes before a declaration, and an earlier object before a later one

abbrev early : Object
early = cpp (root ∷ user 2 ∷ declared (codes "A") ∷ [])

-- with a member
abbrev whole : Object
whole = cpp (root ∷ user 3 ∷ int ∷ structure 0 (codes "A") ∷ of_type 3 DW_TAG_member 2 ∷ [])

abbrev dead : Object
dead = object DW_LANG_C_plus_plus false (root ∷ structure 0 (codes "A") ∷ [])

names_declared_before : names_of (early ∷ whole ∷ [])
    ≡ name 1 2 0x8000000100000002 1 ∷ name 2 3 0x200000003 1 ∷ name 2 4 0x200000004 2 ∷ []
unfolding digits lineage is_made_up is_named_head derived_name spelled_within
names_declared_before = refl

nodes_declared_before : nodes_of true (early ∷ whole ∷ [])
    ≡ ((0, 0) ∷ (2, 3) ∷ (2, 4) ∷ [])
    ∷ ((1, 0) ∷ (1, 1) ∷ [])
    ∷ ((2, 0) ∷ (2, 1) ∷ (2, 2) ∷ []) ∷ []
unfolding digits lineage is_made_up is_named_head derived_name spelled_within preorder
nodes_declared_before = refl

names_dead_before : names_of (dead ∷ whole ∷ [])
    ≡ name 2 3 0x200000003 0 ∷ name 2 4 0x200000004 1 ∷ []
unfolding digits lineage is_made_up is_named_head derived_name spelled_within
names_dead_before = refl

nodes_dead_before : nodes_of true (dead ∷ whole ∷ [])
    ≡ ((0, 0) ∷ (2, 3) ∷ (2, 4) ∷ [])
    ∷ ((2, 0) ∷ (2, 1) ∷ (2, 2) ∷ []) ∷ []
unfolding digits lineage is_made_up is_named_head derived_name spelled_within preorder
nodes_dead_before = refl

names_defined_twice : names_of (whole ∷ whole ∷ [])
    ≡ name 1 3 0x100000003 0 ∷ name 1 4 0x100000004 1 ∷ name 2 3 0x200000003 0 ∷ name 2 4 0x200000004 1 ∷ []
unfolding digits lineage is_made_up is_named_head derived_name spelled_within
names_defined_twice = refl

nodes_defined_twice : nodes_of true (whole ∷ whole ∷ [])
    ≡ ((0, 0) ∷ (1, 3) ∷ (1, 4) ∷ [])
    ∷ ((1, 0) ∷ (1, 1) ∷ (1, 2) ∷ [])
    ∷ ((2, 0) ∷ (2, 1) ∷ (2, 2) ∷ []) ∷ []
unfolding digits lineage is_made_up is_named_head derived_name spelled_within preorder
nodes_defined_twice = refl

nodes_not_merged : nodes_of false (whole ∷ whole ∷ [])
    ≡ ((1, 0) ∷ (1, 1) ∷ (1, 2) ∷ (1, 3) ∷ (1, 4) ∷ [])
    ∷ ((2, 0) ∷ (2, 1) ∷ (2, 2) ∷ (2, 3) ∷ (2, 4) ∷ []) ∷ []
unfolding digits lineage is_made_up is_named_head derived_name spelled_within preorder
nodes_not_merged = refl

-- ---- the same types in another order

abbrev first : Object
first = cpp (root ∷ user 4 ∷ user 5 ∷ user 7 ∷ declared (codes "A") ∷ structure 0 (codes "B") ∷ called 0 DW_TAG_namespace (codes "n") ∷ structure 6 (codes "A") ∷ [])

abbrev second : Object
second = cpp (root ∷ user 5 ∷ user 6 ∷ user 7 ∷ called 0 DW_TAG_namespace (codes "n") ∷ structure 4 (codes "A") ∷ structure 0 (codes "B") ∷ structure 0 (codes "A") ∷ [])

names_reordered : names_of (first ∷ second ∷ [])
    ≡ name 1 4 0x8000000100000004 7 ∷ name 1 5 0x100000005 1 ∷ name 1 6 0x100000006 2 ∷ name 1 7 0x100000007 3
    ∷ name 2 4 0x200000004 2 ∷ name 2 5 0x200000005 3 ∷ name 2 6 0x200000006 1 ∷ name 2 7 0x200000007 7 ∷ []
unfolding digits lineage is_made_up is_named_head derived_name spelled_within
names_reordered = refl

nodes_reordered : nodes_of true (first ∷ second ∷ [])
    ≡ ((0, 0) ∷ (1, 5) ∷ (1, 6) ∷ (1, 7) ∷ (2, 7) ∷ [])
    ∷ ((1, 0) ∷ (1, 1) ∷ (1, 2) ∷ (1, 3) ∷ [])
    ∷ ((2, 0) ∷ (2, 1) ∷ (2, 2) ∷ (2, 3) ∷ []) ∷ []
unfolding digits lineage is_made_up is_named_head derived_name spelled_within preorder
nodes_reordered = refl

targets_reordered : targets_of (first ∷ second ∷ [])
    ≡ map (λ t. Some t) ((1, 0) ∷ (1, 1) ∷ (1, 2) ∷ (1, 3) ∷ (0, 4) ∷ (0, 1) ∷ (0, 2) ∷ (0, 3) ∷ [])
    ∷ map (λ t. Some t) ((2, 0) ∷ (2, 1) ∷ (2, 2) ∷ (2, 3) ∷ (0, 2) ∷ (0, 3) ∷ (0, 1) ∷ (0, 4) ∷ []) ∷ []
unfolding digits lineage is_made_up is_named_head derived_name spelled_within preorder
targets_reordered = refl

nodes_reordered_not_merged : nodes_of false (first ∷ second ∷ [])
    ≡ ((1, 0) ∷ (1, 1) ∷ (1, 2) ∷ (1, 3) ∷ (1, 4) ∷ (1, 5) ∷ (1, 6) ∷ (1, 7) ∷ [])
    ∷ ((2, 0) ∷ (2, 1) ∷ (2, 2) ∷ (2, 3) ∷ (2, 4) ∷ (2, 5) ∷ (2, 6) ∷ (2, 7) ∷ []) ∷ []
unfolding digits lineage is_made_up is_named_head derived_name spelled_within preorder
nodes_reordered_not_merged = refl

-- ---- constructors are told apart by their parameters

-- struct A { A(int); };
abbrev of_int : Object
of_int = cpp (
    root ∷ structure 0 (codes "A") ∷ called 1 DW_TAG_subprogram (codes "A") ∷ of_type 2 DW_TAG_formal_parameter 6 ∷ of_type 2 DW_TAG_formal_parameter 7
    ∷ user 2 ∷ of_type 0 DW_TAG_pointer_type 1 ∷ int ∷ []
    )

-- struct A { A(const A &); A(int); };
abbrev copied_before : Object
copied_before = cpp (
    root ∷ structure 0 (codes "A") ∷ called 1 DW_TAG_subprogram (codes "A") ∷ of_type 2 DW_TAG_formal_parameter 8 ∷ of_type 2 DW_TAG_formal_parameter 9
    ∷ called 1 DW_TAG_subprogram (codes "A") ∷ of_type 5 DW_TAG_formal_parameter 8 ∷ of_type 5 DW_TAG_formal_parameter 11
    ∷ of_type 0 DW_TAG_pointer_type 1 ∷ of_type 0 DW_TAG_reference_type 10 ∷ of_type 0 DW_TAG_const_type 1 ∷ int ∷ user 5 ∷ []
    )

names_constructors : names_of (of_int ∷ copied_before ∷ [])
    ≡ name 1 1 0x100000001 0 ∷ name 1 2 0x100000002 1 ∷ name 1 3 0x100000003 2 ∷ name 1 4 0x100000004 3
    ∷ name 1 6 0x100000006 4 ∷ name 2 1 0x200000001 0 ∷ name 2 2 0x200000002 6 ∷ name 2 3 0x200000003 7
    ∷ name 2 4 0x200000004 8 ∷ name 2 5 0x200000005 1 ∷ name 2 6 0x200000006 2 ∷ name 2 7 0x200000007 3
    ∷ name 2 8 0x200000008 4 ∷ name 2 9 0x200000009 13 ∷ name 2 10 0x20000000a 14 ∷ []
unfolding digits lineage is_made_up is_named_head derived_name spelled_within
names_constructors = refl

nodes_constructors : nodes_of true (of_int ∷ copied_before ∷ [])
    ≡ ((0, 0) ∷ (1, 1) ∷ (1, 2) ∷ (1, 3) ∷ (1, 4) ∷ (2, 2) ∷ (2, 3) ∷ (2, 4) ∷ (1, 6) ∷ (2, 9) ∷ (2, 10) ∷ [])
    ∷ ((1, 0) ∷ (1, 5) ∷ (1, 7) ∷ [])
    ∷ ((2, 0) ∷ (2, 11) ∷ (2, 12) ∷ []) ∷ []
unfolding digits lineage is_made_up is_named_head derived_name spelled_within preorder
nodes_constructors = refl

-- ---- what has no name in the whole program is not merged

-- structures below a namespace without a name and in a function, a template without its arguments, and a structure of C
abbrev hidden : Object
hidden = cpp (
    root ∷ user 3 ∷ bare 0 DW_TAG_namespace ∷ structure 2 (codes "A") ∷ bare 0 DW_TAG_subprogram ∷ structure 4 (codes "A")
    ∷ user 7 ∷ structure 0 (codes "A") ∷ bare 7 DW_TAG_template_type_parameter ∷ user 5 ∷ []
    )

abbrev plain : Object
plain = object DW_LANG_C99 true (root ∷ user 2 ∷ structure 0 (codes "A") ∷ [])

names_hidden : names_of (hidden ∷ plain ∷ []) ≡ []
unfolding digits lineage is_made_up is_named_head derived_name spelled_within
names_hidden = refl

nodes_hidden : nodes_of true (hidden ∷ plain ∷ [])
    ≡ ((1, 0) ∷ (1, 1) ∷ (1, 2) ∷ (1, 3) ∷ (1, 4) ∷ (1, 5) ∷ (1, 6) ∷ (1, 7) ∷ (1, 8) ∷ (1, 9) ∷ [])
    ∷ ((2, 0) ∷ (2, 1) ∷ (2, 2) ∷ []) ∷ []
unfolding digits lineage is_made_up is_named_head derived_name spelled_within preorder
nodes_hidden = refl

-- a namespace above a template without its arguments, and a template with them in its name
abbrev spaced : Object
spaced = cpp (
    root ∷ user 3 ∷ called 0 DW_TAG_namespace (codes "n") ∷ structure 2 (codes "A") ∷ bare 3 DW_TAG_template_type_parameter
    ∷ user 6 ∷ structure 0 (codes "A<int>") ∷ bare 6 DW_TAG_template_type_parameter ∷ []
    )

-- a namespace above a structure, which stands in its unit too, for the subprogram in it
abbrev shared : Object
shared = cpp (root ∷ called 0 DW_TAG_namespace (codes "n") ∷ bare 1 DW_TAG_subprogram ∷ user 4 ∷ structure 1 (codes "A") ∷ user 2 ∷ [])

names_spaced : names_of (spaced ∷ shared ∷ [])
    ≡ name 1 6 0x100000006 0 ∷ name 1 7 0x100000007 1 ∷ name 2 1 0x200000001 2 ∷ name 2 4 0x200000004 3 ∷ []
unfolding digits lineage is_made_up is_named_head derived_name spelled_within
names_spaced = refl

nodes_spaced : nodes_of true (spaced ∷ shared ∷ [])
    ≡ ((0, 0) ∷ (1, 6) ∷ (1, 7) ∷ (2, 1) ∷ (2, 4) ∷ [])
    ∷ ((1, 0) ∷ (1, 1) ∷ (1, 2) ∷ (1, 3) ∷ (1, 4) ∷ (1, 5) ∷ [])
    ∷ ((2, 0) ∷ (2, 1) ∷ (2, 2) ∷ (2, 3) ∷ (2, 5) ∷ []) ∷ []
unfolding digits lineage is_made_up is_named_head derived_name spelled_within preorder
nodes_spaced = refl
