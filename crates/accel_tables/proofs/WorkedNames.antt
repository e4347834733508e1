-- Which names small graphs enter in which table.
use Rattle.std.proofs.Common.{◌≡◌, ℕ, List, [], ◌∷◌, Option, Some, None, refl}
use Rattle.ds_base.specs.DwarfNumbers as dw
use Rattle.ds_base.specs.Leb.{uleb}
use Rattle.dwarf_types.specs.declared.graph.Graph.{Graph}
use Rattle.dwarf_types.specs.declared.graph.Node.{Node}
use Rattle.dwarf_types.specs.declared.graph.OutAttr.{OutAttr}
use Rattle.dwarf_types.specs.declared.graph.OutValue.{OutValue}
use Rattle.dwarf_types.specs.declared.graph.OutValue.TheVariants as values
use Rattle.dwarf_types.specs.declared.graph.Target.{Target}
use Rattle.dwarf_types.specs.Values.{number_len, number_bytes}
use Rattle.accel_tables.specs.declared.which.Which.TheVariants as whiches
use Rattle.accel_tables.specs.EnteredNames.{called, called_among, collected, entered, table_in}

-- what naming computes with
naming : Unit {0}
unfolding called_among uleb number_len number_bytes
naming = tt

abbrev attr : ℕ → OutValue → OutAttr
attr name value = record { name = name; value = value }

abbrev node : Option ℕ → ℕ → List OutAttr → Node
node parent tag attrs = record { parent = parent; tag = tag; attrs = attrs }

abbrev of_nodes : List Node → Graph
of_nodes nodes = record { units = record { version = 4; nodes = nodes; lines = None; ranges = [] } ∷ []; frames = [] }

abbrev to : ℕ → Target
to n = record { unit = 0; node = n }

abbrev named : List ℕ → OutAttr
named text = attr dw.DW_AT_name (values.Text text)

abbrev at_code : OutAttr
at_code = attr dw.DW_AT_low_pc (values.Address 0x1000)

abbrev root : Node
root = node None dw.DW_TAG_compile_unit (named (0x75 ∷ []) ∷ [])

-- ---- "main", whose text stands at 4

abbrev main : Graph
main = of_nodes (node None dw.DW_TAG_compile_unit (named (0x6d ∷ 0x2e ∷ 0x63 ∷ []) ∷ attr dw.DW_AT_language (values.Number dw.DW_FORM_data2 0x000c) ∷ attr dw.DW_AT_low_pc (values.Address 0) ∷ []) ∷ node (Some 0) dw.DW_TAG_subprogram (at_code ∷ named (0x6d ∷ 0x61 ∷ 0x69 ∷ 0x6e ∷ []) ∷ []) ∷ [])

main_entered : entered main whiches.Names ≡ (0x6d ∷ 0x61 ∷ 0x69 ∷ 0x6e ∷ [], 0x1a) ∷ []
unfolding naming
main_entered = refl

no_types : table_in main whiches.Types ≡ []
unfolding naming
no_types = refl

-- ---- types: "T" as a declaration, "T", an enumeration without a name, and a structure with an empty one

abbrev types : Graph
types = of_nodes (root
    ∷ node (Some 0) dw.DW_TAG_structure_type (named (0x54 ∷ []) ∷ attr dw.DW_AT_declaration (values.Number dw.DW_FORM_flag_present 1) ∷ [])
    ∷ node (Some 0) dw.DW_TAG_structure_type (named (0x54 ∷ []) ∷ attr dw.DW_AT_declaration (values.Number dw.DW_FORM_flag 0) ∷ [])
    ∷ node (Some 0) dw.DW_TAG_enumeration_type []
    ∷ node (Some 0) dw.DW_TAG_structure_type (named [] ∷ [])
    ∷ node (Some 0) dw.DW_TAG_pointer_type (named (0x70 ∷ []) ∷ []) ∷ [])

no_declaration : collected types whiches.Types ≡ (0x54 ∷ [], to 2) ∷ []
unfolding naming
no_declaration = refl

-- ---- "f" by its specification, whose linkage name is the same text; a variable with a place in a function, and one outside

abbrev placed : OutAttr
placed = attr dw.DW_AT_location (values.Expr [])

abbrev functions : Graph
functions = of_nodes (root
    ∷ node (Some 0) dw.DW_TAG_subprogram (named (0x66 ∷ []) ∷ attr dw.DW_AT_linkage_name (values.Text (0x66 ∷ [])) ∷ [])
    ∷ node (Some 0) dw.DW_TAG_subprogram (at_code ∷ attr dw.DW_AT_specification (values.Ref (to 1)) ∷ [])
    ∷ node (Some 2) dw.DW_TAG_lexical_block []
    ∷ node (Some 3) dw.DW_TAG_variable (named (0x76 ∷ []) ∷ placed ∷ [])
    ∷ node (Some 0) dw.DW_TAG_variable (named (0x77 ∷ []) ∷ placed ∷ [])
    ∷ node (Some 0) dw.DW_TAG_variable (named (0x78 ∷ []) ∷ []) ∷ [])

once_each : collected functions whiches.Names ≡ (0x66 ∷ [], to 2) ∷ (0x77 ∷ [], to 5) ∷ []
unfolding naming
once_each = refl

-- ---- the abstract origin comes before the specification, also before that of a later entry

abbrev both_ways : Graph
both_ways = of_nodes (root
    ∷ node (Some 0) dw.DW_TAG_subprogram (attr dw.DW_AT_abstract_origin (values.Ref (to 2)) ∷ attr dw.DW_AT_specification (values.Ref (to 4)) ∷ [])
    ∷ node (Some 0) dw.DW_TAG_subprogram (attr dw.DW_AT_specification (values.Ref (to 3)) ∷ [])
    ∷ node (Some 0) dw.DW_TAG_subprogram (named (0x61 ∷ []) ∷ [])
    ∷ node (Some 0) dw.DW_TAG_subprogram (named (0x62 ∷ []) ∷ attr dw.DW_AT_linkage_name (values.Text (0x63 ∷ [])) ∷ []) ∷ [])

deepest_first : called both_ways dw.DW_AT_name (to 1) ≡ Some (0x61 ∷ [])
unfolding naming
deepest_first = refl

-- and where that way leads to none, the specification is followed
then_back : called both_ways dw.DW_AT_linkage_name (to 1) ≡ Some (0x63 ∷ [])
unfolding naming
then_back = refl

-- an entry that leads to itself
in_a_circle : called (of_nodes (node None dw.DW_TAG_subprogram (attr dw.DW_AT_abstract_origin (values.Ref (to 0)) ∷ []) ∷ [])) dw.DW_AT_name (to 0) ≡ None
unfolding naming
in_a_circle = refl
