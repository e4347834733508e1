-- A small object in C++: a namespace with a structure that has a field, a constructor by pointer and by reference, a pointer to it, and a base type.
use Rattle.std.proofs.Common.{◌≡◌, ℕ, true, false, List, [], ◌∷◌, map, Option, Some, None, refl, replicate, ◌++◌, ◌+◌, slice_get}
use Rattle.std.specs.Prelude.{codes}
use Rattle.std.specs.Fmt.{digits}
use Rattle.std.specs.Option.{option_map}
use Rattle.ds_base.specs.DwarfNumbers as dw
use Rattle.dwarf_types.specs.declared.entry.Attr.{Attr}
use Rattle.dwarf_types.specs.declared.entry.Entry.{Entry}
use Rattle.dwarf_types.specs.declared.entry.InUnit.{InUnit}
use Rattle.dwarf_types.specs.declared.value.Value.{Value}
use Rattle.dwarf_types.specs.declared.value.Value.TheVariants as values
use Rattle.type_names.specs.Start.{hash_from, start_of}
use Rattle.type_names.specs.Tree.{lineage}
use Rattle.type_names.specs.Entries.{is_made_up}
use Rattle.type_names.specs.Spell.{spelled_within, spelled_parameters}
use Rattle.type_names.specs.Heads.{Object, derived_name, is_named_head}
use Rattle.type_names.specs.Paths.{Piece, ordinal_of, path_of}
use Rattle.type_names.specs.Names.{Named, names_in}

attr : ℕ → Value → Attr
attr name value = record { name = name; form = 0; value = value }

named : List ℕ → Attr
named text = attr dw.DW_AT_name (values.Text text)

typed : ℕ → Attr
typed k = attr dw.DW_AT_type (values.Ref k)

entry : Option ℕ → ℕ → List Attr → Entry
entry parent tag attrs = record { parent = parent; unit = 0; place = 0; tag = tag; attrs = attrs }

entries : List Entry
entries =
    entry None dw.DW_TAG_compile_unit []
    ∷ entry (Some 0) dw.DW_TAG_namespace (named (codes "n") ∷ [])
    ∷ entry (Some 1) dw.DW_TAG_class_type (named (codes "A") ∷ [])
    ∷ entry (Some 2) dw.DW_TAG_member (named (codes "x") ∷ typed 10 ∷ [])
    ∷ entry (Some 2) dw.DW_TAG_subprogram (named (codes "A") ∷ [])
    ∷ entry (Some 4) dw.DW_TAG_formal_parameter (typed 9 ∷ [])
    ∷ entry (Some 2) dw.DW_TAG_subprogram (named (codes "A") ∷ [])
    ∷ entry (Some 6) dw.DW_TAG_formal_parameter (typed 9 ∷ [])
    ∷ entry (Some 6) dw.DW_TAG_formal_parameter (typed 10 ∷ [])
    ∷ entry (Some 0) dw.DW_TAG_pointer_type (typed 2 ∷ [])
    ∷ entry (Some 0) dw.DW_TAG_base_type (named (codes "int") ∷ [])
    ∷ entry (Some 0) dw.DW_TAG_pointer_type []
    ∷ entry (Some 2) dw.DW_TAG_member (typed 10 ∷ [])
    ∷ entry (Some 2) dw.DW_TAG_member (typed 9 ∷ [])
    ∷ entry (Some 0) dw.DW_TAG_array_type (typed 10 ∷ [])
    ∷ entry (Some 14) dw.DW_TAG_subrange_type (attr dw.DW_AT_count (values.Number dw.DW_FORM_data1 3) ∷ [])
    ∷ entry (Some 14) dw.DW_TAG_subrange_type []
    ∷ entry (Some 0) dw.DW_TAG_subroutine_type []
    ∷ entry (Some 17) dw.DW_TAG_formal_parameter (typed 9 ∷ [])
    ∷ entry (Some 17) dw.DW_TAG_unspecified_parameters []
    ∷ entry (Some 0) dw.DW_TAG_structure_type (named (codes "V") ∷ [])
    ∷ entry (Some 20) dw.DW_TAG_template_type_parameter []
    ∷ entry (Some 0) dw.DW_TAG_pointer_type (typed 20 ∷ [])
    ∷ entry (Some 0) dw.DW_TAG_ptr_to_member_type (attr dw.DW_AT_containing_type (values.Ref 2) ∷ typed 10 ∷ [])
    ∷ entry (Some 2) dw.DW_TAG_structure_type []
    ∷ entry (Some 0) dw.DW_TAG_pointer_type (typed 24 ∷ [])
    ∷ []

unit : InUnit
unit = record { first = 0; count = 26; version = 4; language = dw.DW_LANG_C_plus_plus_14; lines = None }

one : Object
one = record {
  seen = record { units = unit ∷ []; entries = entries; code = []; frames = [] };
  live = replicate 11 true ++ (false ∷ replicate 14 true);
}

family : lineage entries 5 ≡ 0 ∷ 1 ∷ 2 ∷ 4 ∷ 5 ∷ []
unfolding lineage attr named typed entry entries
family = refl

heads : map (is_named_head one) (1 ∷ 2 ∷ 3 ∷ 9 ∷ []) ≡ false ∷ true ∷ false ∷ false ∷ []
unfolding lineage is_made_up is_named_head attr named typed entry entries unit one
heads = refl

pointer : derived_name one 9 ≡ Some (codes "*s n::A")
unfolding digits lineage is_made_up is_named_head derived_name spelled_within attr named typed entry entries unit one
pointer = refl

constructor : spelled_parameters entries 6 ≡ Some (codes "*s n::A;b int;")
unfolding lineage is_made_up spelled_within attr named typed entry entries unit one
constructor = refl

derived : map (derived_name one) (14 ∷ 17 ∷ 22 ∷ 23 ∷ 25 ∷ []) ≡ Some (codes "[3;;]b int") ∷ Some (codes "(*s n::A;...;)void") ∷ None ∷ Some (codes "ms n::A,b int") ∷ None ∷ []
unfolding digits lineage is_made_up is_named_head derived_name spelled_within attr named typed entry entries unit one
derived = refl

-- its names: numbers and bids, and the last pieces of the paths
pooled : map (λ (it : Named). it.entry) (names_in 3 one) ≡ 1 ∷ 2 ∷ 3 ∷ 4 ∷ 5 ∷ 6 ∷ 7 ∷ 8 ∷ 9 ∷ 12 ∷ 13 ∷ 14 ∷ 15 ∷ 16 ∷ 17 ∷ 18 ∷ 19 ∷ 23 ∷ 24 ∷ []
unfolding digits lineage is_made_up is_named_head derived_name spelled_within attr named typed entry entries unit one
pooled = refl

ordinals : map (λ (it : Named). option_map (λ (e : Entry). ordinal_of 3 one it.entry e) (slice_get entries it.entry)) (names_in 3 one)
    ≡ map (λ (n : ℕ). Some n) (0 ∷ 0 ∷ 0 ∷ 0 ∷ 0 ∷ 0 ∷ 0 ∷ 1 ∷ 0 ∷ 0 ∷ 1 ∷ 0 ∷ 0 ∷ 1 ∷ 0 ∷ 0 ∷ 0 ∷ 0 ∷ 0 ∷ [])
unfolding digits lineage is_made_up is_named_head derived_name spelled_within attr named typed entry entries unit one
ordinals = refl

piece : ℕ → Option (List ℕ) → Option (List ℕ) → ℕ → Piece
piece tag name spelled ordinal = record { parts = record { tag = tag; name = name; linkage = None; spelled = spelled; private = None }; ordinal = ordinal }

eighth : path_of 3 one 8 ≡ piece 0x39 (Some (codes "n")) None 0 ∷ piece 0x13 (Some (codes "A")) None 0 ∷ piece 0x2e (Some (codes "A")) (Some (codes "*s n::A;b int;")) 0 ∷ piece 0x05 None None 1 ∷ []
unfolding digits lineage is_made_up is_named_head derived_name spelled_within attr named typed entry entries unit one piece
eighth = refl

twelfth_bid : map (λ (it : Named). it.bid) (names_in 3 one) ≡ map (λ (k : ℕ). 0x300000000 + k) (map (λ (it : Named). it.entry) (names_in 3 one))
unfolding digits lineage is_made_up is_named_head derived_name spelled_within attr named typed entry entries unit one
twelfth_bid = refl

start : start_of (piece 0x39 (Some (codes "n")) None 0 ∷ piece 0x13 (Some (codes "A")) None 0 ∷ piece 0x0d (Some (codes "x")) None 0 ∷ []) 1000003 ≡ 270497
unfolding hash_from piece
start = refl
