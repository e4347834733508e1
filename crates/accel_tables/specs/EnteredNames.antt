-- Under which names the entries of a graph stand in the three tables.
use Rattle.std.specs.Prelude.{ℕ, zero, suc, ◌+◌, ◌==◌, ◌&&◌, ◌||◌, not, Bool, true, false, List, [], ◌∷◌, ◌++◌, length, map, slice_get, Option, Some, None, is_some, if◌then◌else◌}
use Rattle.std.specs.List.{enumerate_from, filter, filter_map, find, flat_map, list_any}
use Rattle.std.specs.Option.{option_and_then, option_map, option_map_or, option_or, option_to_list}
use Rattle.std.specs.Str.{bytes_eq}
use Rattle.ds_base.specs.DwarfNumbers as dw
use Rattle.ds_base.specs.FirstUse.{once}
use Rattle.dwarf_types.specs.declared.graph.Graph.{Graph}
use Rattle.dwarf_types.specs.declared.graph.Node.{Node}
use Rattle.dwarf_types.specs.declared.graph.OutValue.{OutValue}
use Rattle.dwarf_types.specs.declared.graph.OutValue.TheVariants as values
use Rattle.dwarf_types.specs.declared.graph.Target.{Target}
use Rattle.dwarf_types.specs.Entries.{ancestors_of}
use Rattle.dwarf_types.specs.Layout.{numbered_units, target_place, text_of, text_place, unit_start}
use Rattle.accel_tables.specs.declared.rows.Row.{Row}
use Rattle.accel_tables.specs.declared.which.Which.{Which}
use Rattle.accel_tables.specs.declared.which.Which.TheVariants as whiches
use Rattle.accel_tables.specs.Hash.{hash_of}
use Rattle.accel_tables.specs.Table.{table_of}

-- ---- attributes of a node; of those of one name the first counts

abbrev pub value_of : ℕ → Node → Option OutValue
value_of at node = option_map (λ a. a.value) (find (λ a. a.name == at) node.attrs)

abbrev pub has : ℕ → Node → Bool
has at node = is_some (value_of at node)

abbrev pub text_at : ℕ → Node → Option (List ℕ)
text_at at node = option_and_then text_of (value_of at node)

abbrev pub target_of : OutValue → Option Target
target_of (values.Ref target) = Some target
target_of _ = None

abbrev pub target_at : ℕ → Node → Option Target
target_at at node = option_and_then target_of (value_of at node)

abbrev pub is_expression : OutValue → Bool
is_expression (values.Expr parts) = true
is_expression _ = false

-- a number other than 0
abbrev pub is_set : OutValue → Bool
is_set (values.Number form bits) = not (bits == 0)
is_set _ = false

-- ---- what an entry is called

-- the entries that may have its name: its abstract origin, and then its specification
abbrev pub leads : Node → List Target
leads node = option_to_list (target_at dw.DW_AT_abstract_origin node) ++ option_to_list (target_at dw.DW_AT_specification node)

abbrev pub node_at : Graph → Target → Option Node
node_at graph t = option_and_then (λ unit. slice_get unit.nodes t.node) (slice_get graph.units t.unit)

-- The text of an attribute of the first of these entries that has one. Where one hasn't, those to which it leads come next. At most so many are looked at.
unfoldable pub called_among : ℕ → Graph → ℕ → List Target → Option (List ℕ)
called_among zero graph at targets = None
called_among (suc n) graph at [] = None
called_among (suc n) graph at (t ∷ waiting) =
    option_or (option_and_then (text_at at) (node_at graph t)) (called_among n graph at (option_map_or leads (node_at graph t) [] ++ waiting))

-- of an entry or what it leads to: at most 16 references are followed
abbrev pub called : Graph → ℕ → Target → Option (List ℕ)
called graph at t = called_among 17 graph at (t ∷ [])

-- ---- which entries are entered

-- a subprogram stands above a node
abbrev pub is_inside : List Node → ℕ → Bool
is_inside nodes k = list_any (λ j. option_map_or (λ node. node.tag == dw.DW_TAG_subprogram) (slice_get nodes j) false) (ancestors_of nodes k)

-- functions and their inlined copies that have code, labels with an address, and variables outside of functions that have a place
abbrev pub is_in_names : Bool → Node → Bool
is_in_names inside node =
    if node.tag == dw.DW_TAG_subprogram || node.tag == dw.DW_TAG_inlined_subroutine then has dw.DW_AT_low_pc node || has dw.DW_AT_ranges node
    else if node.tag == dw.DW_TAG_label then has dw.DW_AT_low_pc node
    else node.tag == dw.DW_TAG_variable && option_map_or is_expression (value_of dw.DW_AT_location node) false && not inside

abbrev pub is_type_tag : ℕ → Bool
is_type_tag tag = list_any (λ t. tag == t) (dw.DW_TAG_class_type ∷ dw.DW_TAG_enumeration_type ∷ dw.DW_TAG_structure_type ∷ dw.DW_TAG_typedef ∷ dw.DW_TAG_union_type ∷ dw.DW_TAG_base_type ∷ dw.DW_TAG_unspecified_type ∷ [])

-- types that aren't declarations
abbrev pub is_in_types : Node → Bool
is_in_types node = is_type_tag node.tag && not (option_map_or is_set (value_of dw.DW_AT_declaration node) false)

-- its names: what it is called, and by its linkage name, or for types and namespaces its own name
abbrev pub names_of : Graph → Which → Target → Node → List (List ℕ)
names_of graph whiches.Names t node = option_to_list (called graph dw.DW_AT_name t) ++ option_to_list (called graph dw.DW_AT_linkage_name t)
names_of graph _ t node = option_to_list (text_at dw.DW_AT_name node)

abbrev pub is_in : Which → List Node → ℕ → Node → Bool
is_in whiches.Names nodes k node = is_in_names (is_inside nodes k) node
is_in whiches.Types nodes k node = is_in_types node
is_in whiches.Namespaces nodes k node = node.tag == dw.DW_TAG_namespace

-- those that aren't empty, each once
abbrev pub entered_names : List (List ℕ) → List (List ℕ)
entered_names names = once bytes_eq (filter (λ name. not (length name == 0)) names)

abbrev pub names_of_node : Graph → Which → ℕ → List Node → ℕ × Node → List (List ℕ × Target)
names_of_node graph which u nodes numbered =
    let t : Target = record { unit = u; node = numbered.0 } in
    if is_in which nodes numbered.0 numbered.1 then map (λ name. (name, t)) (entered_names (names_of graph which t numbered.1)) else []

-- names with their entries, in the order of units and nodes
abbrev pub collected : Graph → Which → List (List ℕ × Target)
collected graph which = flat_map (λ unit. flat_map (names_of_node graph which unit.0 unit.1.nodes) (enumerate_from 0 unit.1.nodes)) (numbered_units graph)

-- ---- by their places

-- where an entry stands in the information section
abbrev pub entry_place : Graph → Target → ℕ
entry_place graph t = unit_start graph t.unit + target_place graph t

-- Names with the places of their entries. The text at place 0 of the string section is left out: as a place, 0 ends a data list.
abbrev pub entered : Graph → Which → List (List ℕ × ℕ)
entered graph which = filter_map (λ pair. if text_place graph pair.0 == 0 then None else Some (pair.0, entry_place graph pair.1)) (collected graph which)

abbrev pub rows_entered : Graph → Which → List Row
rows_entered graph which = map (λ pair. record { hash = hash_of pair.0; text = text_place graph pair.0; entry = pair.1 }) (entered graph which)

-- the table of what is entered, which has no bytes where that is nothing
abbrev pub table_in : Graph → Which → List ℕ
table_in graph which = if length (entered graph which) == 0 then [] else table_of (rows_entered graph which)
