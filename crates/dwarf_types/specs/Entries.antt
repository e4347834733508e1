-- The entries of an output unit as bytes, and where each stands (DWARF 4, sections 7.5.1 and 7.5.2; DWARF 5, section 7.5.1.1, for the header of version 5).
use Rattle.std.specs.Prelude.{ℕ, zero, suc, ◌+◌, ◌-◌, ◌==◌, List, [], ◌∷◌, ◌++◌, length, map, take, replicate, slice_get, Option, nat_lt, if◌then◌else◌}
use Rattle.std.specs.Option.{option_and_then, option_map_or}
use Rattle.std.specs.List.{enumerate_from, sum_by}
use Rattle.byteorder.specs.Endian.{little_bytes}
use Rattle.ds_base.specs.DwarfNumbers.{DW_UT_compile}
use Rattle.ds_base.specs.Leb.{uleb, uleb_len_of}
use Rattle.dwarf_types.specs.declared.graph.Node.{Node}
use Rattle.dwarf_types.specs.declared.graph.OutUnit.{OutUnit}
use Rattle.dwarf_types.specs.Abbreviations.{declaration_of, table_of, code_in}
use Rattle.dwarf_types.specs.Lists.{ranges_len, locations_len}
use Rattle.dwarf_types.specs.Places.{Places, ListPlaces}
use Rattle.dwarf_types.specs.Values.{values_len, values_bytes}

-- ---- the tree

-- the parent of a node
abbrev pub parent_of : List Node → ℕ → Option ℕ
parent_of nodes k = option_and_then (λ n. n.parent) (slice_get nodes k)

-- the ancestors of a node from its parent up, each before the one below it, of which there are at most so many
abbrev pub ancestors_up : ℕ → List Node → ℕ → List ℕ
ancestors_up zero nodes k = []
ancestors_up (suc most) nodes k = option_map_or (λ p. p ∷ (if nat_lt p k then ancestors_up most nodes p else [])) (parent_of nodes k) []

abbrev pub ancestors_of : List Node → ℕ → List ℕ
ancestors_of nodes k = ancestors_up (k + 1) nodes k

-- how deep a node stands
abbrev pub depth_of : List Node → ℕ → ℕ
depth_of nodes k = length (ancestors_of nodes k)

-- how many lists of siblings end behind node k: as many as the next node has ancestors less, behind the last node all
abbrev pub lists_ended : List Node → ℕ → ℕ
lists_ended nodes k = depth_of nodes k - depth_of nodes (k + 1)

-- an entry: the code of its abbreviation, its node, and how many lists of siblings end behind it
pub record OutEntry : Type 0 where
  pub code : ℕ
  pub node : Node
  pub ended : ℕ

-- the entry of node k of the unit of a number
abbrev pub entry_of : ℕ → List Node → ℕ → Node → OutEntry
entry_of u nodes k node = record { code = code_in (table_of u nodes) (declaration_of u nodes k node); node = node; ended = lists_ended nodes k }

abbrev pub entries_of : ℕ → OutUnit → List OutEntry
entries_of u unit = map (λ n. entry_of u unit.nodes n.0 n.1) (enumerate_from 0 unit.nodes)

-- ---- lengths and places

-- the code, the values, and a zero byte for each list that ends behind them
abbrev pub entry_len : OutEntry → ℕ
entry_len entry = uleb_len_of entry.code + (values_len entry.node.attrs + entry.ended)

-- unit_length, version, debug_abbrev_offset, address_size, and in version 5 unit_type
abbrev pub header_len : ℕ → ℕ
header_len version = if version == 5 then 12 else 11

-- The place of an entry, counted from the header of its unit: the length of the header and of all entries before it, with the zero bytes behind them.
abbrev pub node_place : ℕ → OutUnit → ℕ → ℕ
node_place u unit k = header_len unit.version + sum_by entry_len (take k (entries_of u unit))

abbrev pub unit_len : ℕ → OutUnit → ℕ
unit_len u unit = header_len unit.version + sum_by entry_len (entries_of u unit)

-- ---- bytes

-- the range lists and the location lists of a node of a unit of a version
abbrev pub node_ranges_len : ℕ → Node → ℕ
node_ranges_len version node = sum_by (λ a. ranges_len version a.value) node.attrs

abbrev pub node_locations_len : ℕ → Node → ℕ
node_locations_len version node = sum_by (λ a. locations_len version a.value) node.attrs

-- where the next lists stand behind those of a node
abbrev pub behind_node : ℕ → ListPlaces → Node → ListPlaces
behind_node version next node = record { ranges = next.ranges + node_ranges_len version node; locations = next.locations + node_locations_len version node }

abbrev pub entry_bytes : Places → ListPlaces → OutEntry → List ℕ
entry_bytes places next entry = uleb entry.code ++ (values_bytes places next entry.node.attrs ++ replicate entry.ended 0)

abbrev pub entries_bytes : Places → ListPlaces → List OutEntry → List ℕ
entries_bytes places next [] = []
entries_bytes places next (e ∷ es) = entry_bytes places next e ++ entries_bytes places (behind_node places.version next e.node) es

-- what follows the version: in version 5 unit_type and address_size before debug_abbrev_offset, else that and then address_size
abbrev pub header_fields : ℕ → ℕ → List ℕ
header_fields version table = if version == 5 then DW_UT_compile ∷ 8 ∷ little_bytes 4 table else little_bytes 4 table ++ (8 ∷ [])

-- the header of a unit whose abbreviations stand at a place; unit_length does not count itself
abbrev pub header_bytes : ℕ → ℕ → OutUnit → List ℕ
header_bytes u table unit = little_bytes 4 (unit_len u unit - 4) ++ (little_bytes 2 unit.version ++ header_fields unit.version table)

-- a unit, whose abbreviations and whose first lists stand at these places
abbrev pub unit_bytes : Places → ListPlaces → ℕ → OutUnit → List ℕ
unit_bytes places next table unit = header_bytes places.unit table unit ++ entries_bytes places next (entries_of places.unit unit)
