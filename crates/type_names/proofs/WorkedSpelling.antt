-- The spelling of parameters: a constructor and a copy constructor, arrays with bounds of each kind, and names of each kind of type.
use Rattle.std.proofs.Common.{◌≡◌, ℕ, List, [], ◌∷◌, map, Option, Some, None, refl, true}
use Rattle.std.specs.Prelude.{codes}
use Rattle.std.specs.Fmt.{digits}
use Rattle.ds_base.specs.DwarfNumbers as dw
use Rattle.dwarf_types.specs.declared.entry.Attr.{Attr}
use Rattle.dwarf_types.specs.declared.entry.Entry.{Entry}
use Rattle.dwarf_types.specs.declared.value.Value.{Value}
use Rattle.dwarf_types.specs.declared.value.Value.TheVariants as values
use Rattle.type_names.specs.Tree.{lineage}
use Rattle.type_names.specs.Entries.{is_made_up}
use Rattle.type_names.specs.Spell.{spelled_within, spelled_parameters, spelling}

attr : ℕ → Value → Attr
attr name value = record { name = name; form = 0; value = value }

named : List ℕ → Attr
named text = attr dw.DW_AT_name (values.Text text)

typed : ℕ → Attr
typed k = attr dw.DW_AT_type (values.Ref k)

entry : Option ℕ → ℕ → List Attr → Entry
entry parent tag attrs = record { parent = parent; unit = 0; place = 0; tag = tag; attrs = attrs }

-- struct A { A(int); A(const A &); };
constructors : List Entry
constructors =
    entry None dw.DW_TAG_compile_unit []
    ∷ entry (Some 0) dw.DW_TAG_structure_type (named (codes "A") ∷ [])
    ∷ entry (Some 1) dw.DW_TAG_subprogram (named (codes "A") ∷ [])
    ∷ entry (Some 2) dw.DW_TAG_formal_parameter (typed 8 ∷ [])
    ∷ entry (Some 2) dw.DW_TAG_formal_parameter (typed 11 ∷ [])
    ∷ entry (Some 1) dw.DW_TAG_subprogram (named (codes "A") ∷ [])
    ∷ entry (Some 5) dw.DW_TAG_formal_parameter (typed 8 ∷ [])
    ∷ entry (Some 5) dw.DW_TAG_formal_parameter (typed 9 ∷ [])
    ∷ entry (Some 0) dw.DW_TAG_pointer_type (typed 1 ∷ [])
    ∷ entry (Some 0) dw.DW_TAG_reference_type (typed 10 ∷ [])
    ∷ entry (Some 0) dw.DW_TAG_const_type (typed 1 ∷ [])
    ∷ entry (Some 0) dw.DW_TAG_base_type (named (codes "int") ∷ [])
    ∷ []

both_constructors : map (spelled_parameters constructors) (2 ∷ 5 ∷ []) ≡ Some (codes "*s A;b int;") ∷ Some (codes "*s A;&cs A;") ∷ []
unfolding lineage is_made_up spelled_within attr named typed entry constructors
both_constructors = refl

number : ℕ → ℕ → ℕ → Attr
number name form bits = record { name = name; form = form; value = values.Number form bits }

-- arrays of void: an upper bound, a count, the greatest count, a bound whose count passes 64 bits, a flag, a text, and a child that is no subrange
arrays : List Entry
arrays =
    entry None dw.DW_TAG_compile_unit []
    ∷ entry (Some 0) dw.DW_TAG_array_type []
    ∷ entry (Some 1) dw.DW_TAG_subrange_type (number dw.DW_AT_upper_bound dw.DW_FORM_data1 9 ∷ [])
    ∷ entry (Some 0) dw.DW_TAG_array_type []
    ∷ entry (Some 3) dw.DW_TAG_subrange_type (number dw.DW_AT_upper_bound dw.DW_FORM_data1 9 ∷ number dw.DW_AT_count dw.DW_FORM_data1 3 ∷ [])
    ∷ entry (Some 0) dw.DW_TAG_array_type []
    ∷ entry (Some 5) dw.DW_TAG_subrange_type (number dw.DW_AT_count dw.DW_FORM_data8 0xffffffffffffffff ∷ [])
    ∷ entry (Some 0) dw.DW_TAG_array_type []
    ∷ entry (Some 7) dw.DW_TAG_subrange_type (number dw.DW_AT_upper_bound dw.DW_FORM_data8 0xffffffffffffffff ∷ [])
    ∷ entry (Some 0) dw.DW_TAG_array_type []
    ∷ entry (Some 9) dw.DW_TAG_subrange_type (number dw.DW_AT_count dw.DW_FORM_flag 3 ∷ [])
    ∷ entry (Some 0) dw.DW_TAG_array_type []
    ∷ entry (Some 11) dw.DW_TAG_subrange_type (attr dw.DW_AT_count (values.Text (codes "3")) ∷ [])
    ∷ entry (Some 0) dw.DW_TAG_array_type []
    ∷ entry (Some 13) dw.DW_TAG_enumeration_type []
    ∷ []

bounds : map (spelling (λ _. true) arrays) (1 ∷ 3 ∷ 5 ∷ 7 ∷ 9 ∷ 11 ∷ 13 ∷ []) ≡ Some (codes "[10;]void") ∷ Some (codes "[3;]void") ∷ Some (codes "[18446744073709551615;]void") ∷ None ∷ None ∷ None ∷ None ∷ []
unfolding digits lineage spelled_within attr number entry arrays
bounds = refl

-- a class, a union, an enumeration and a typedef in a namespace and in each other, and one in a namespace without a name
types : List Entry
types =
    entry None dw.DW_TAG_compile_unit []
    ∷ entry (Some 0) dw.DW_TAG_namespace (named (codes "n") ∷ [])
    ∷ entry (Some 1) dw.DW_TAG_class_type (named (codes "C") ∷ [])
    ∷ entry (Some 2) dw.DW_TAG_union_type (named (codes "U") ∷ [])
    ∷ entry (Some 3) dw.DW_TAG_enumeration_type (named (codes "E") ∷ [])
    ∷ entry (Some 0) dw.DW_TAG_typedef (named (codes "T") ∷ [])
    ∷ entry (Some 0) dw.DW_TAG_namespace []
    ∷ entry (Some 6) dw.DW_TAG_structure_type (named (codes "S") ∷ [])
    ∷ entry (Some 0) dw.DW_TAG_namespace (named (codes "(anonymous namespace)") ∷ [])
    ∷ entry (Some 8) dw.DW_TAG_structure_type (named (codes "S") ∷ [])
    ∷ entry (Some 0) dw.DW_TAG_unspecified_type (named (codes "decltype(nullptr)") ∷ [])
    ∷ entry (Some 0) dw.DW_TAG_atomic_type (typed 2 ∷ [])
    ∷ entry (Some 0) dw.DW_TAG_variable []
    ∷ []

kinds : map (spelling (λ _. true) types) (2 ∷ 3 ∷ 4 ∷ 5 ∷ 7 ∷ 9 ∷ 10 ∷ 11 ∷ 12 ∷ 13 ∷ [])
    ≡ Some (codes "s n::C") ∷ Some (codes "n n::C::U") ∷ Some (codes "e n::C::U::E") ∷ Some (codes "t T") ∷ None ∷ None ∷ Some (codes "u decltype(nullptr)") ∷ Some (codes "as n::C") ∷ None ∷ None ∷ []
unfolding lineage is_made_up spelled_within attr named typed entry types
kinds = refl
