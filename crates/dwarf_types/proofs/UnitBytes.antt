-- The abbreviations, entries, lists and addresses of well units are bytes.
use Rattle.std.proofs.Common.{◌<◌, ◌+◌, ◌-◌, ◌==◌, ◌++◌, ◌∷◌, ℕ, Bool, true, false, List, [], All, length, map, flat_map, if◌then◌else◌, arith}
use Rattle.std.specs.Int.{w64, cast_signed}
use Rattle.std.specs.List.{enumerate_from}
use Rattle.std.proofs.lemmas.List.Elements.{All-head, All-tail}
use Rattle.ds_base.specs.DwarfNumbers.{DW_FORM_block1, DW_FORM_block2, DW_FORM_block4, DW_FORM_data1, DW_FORM_data2, DW_FORM_data4, DW_FORM_data8, DW_FORM_flag, DW_FORM_sdata, DW_FORM_udata, DW_LLE_start_end, DW_RLE_end_of_list, DW_RLE_start_end, DW_UT_compile}
use Rattle.ds_base.specs.Leb.{uleb}
use Rattle.dwarf_types.specs.declared.abbrev.Declaration.{Declaration}
use Rattle.dwarf_types.specs.declared.address.Span.{Span}
use Rattle.dwarf_types.specs.declared.graph.Node.{Node}
use Rattle.dwarf_types.specs.declared.graph.OutAttr.{OutAttr}
use Rattle.dwarf_types.specs.declared.graph.OutLocation.{OutLocation}
use Rattle.dwarf_types.specs.declared.graph.OutUnit.{OutUnit}
use Rattle.dwarf_types.specs.declared.graph.OutValue.{OutValue}
use Rattle.dwarf_types.specs.declared.graph.OutValue.TheVariants as values
use Rattle.dwarf_types.specs.declared.graph.Target.{Target}
use Rattle.dwarf_types.specs.Abbreviations.{declaration_bytes, table_bytes, table_of}
use Rattle.dwarf_types.specs.Aranges.{arange_bytes, aranges_bytes, set_bytes, set_len}
use Rattle.dwarf_types.specs.Encode.{over_values}
use Rattle.dwarf_types.specs.Entries.{OutEntry, behind_node, entries_bytes, entry_bytes, entry_of, header_bytes, header_fields, unit_bytes, unit_len}
use Rattle.dwarf_types.specs.Expressions.{expression_len}
use Rattle.dwarf_types.specs.Lists.{behind_header, end_of_list, kind_bytes, lists_header, location_bytes, locations_bytes, range_bytes, ranges_bytes, size_bytes, span_bytes}
use Rattle.dwarf_types.specs.Places.{ListPlaces, Places, behind_value, own_node, ref_place}
use Rattle.dwarf_types.specs.Values.{block_prefix, number_bytes, value_bytes, values_bytes}
use Rattle.dwarf_types.specs.WellNodes.{IsAttribute, IsNode}
use Rattle.dwarf_types.specs.WellValues.{IsLocation, IsValue}
use Rattle.dwarf_types.proofs.Bytes.{Bytes, all_have, both, byte, each_has, either, given, none, number, signed, unsigned, zeros}
use Rattle.dwarf_types.proofs.ExpressionBytes.{expression_is}

-- ---- abbreviations

flag_small : (b : Bool) → (if b then 1 else 0) < 256
flag_small true = omega arith
flag_small false = omega arith

declaration_is : (code : ℕ) (d : Declaration) → Bytes (declaration_bytes code d)
declaration_is code d =
    both (unsigned code) (both (unsigned d.tag) (byte (if d.children then 1 else 0) (flag_small d.children)
    (both (each_has (λ (p : ℕ × ℕ). uleb p.0 ++ uleb p.1) (λ p. both (unsigned p.0) (unsigned p.1)) d.attributes) (byte 0 (omega arith) (byte 0 (omega arith) none)))))

pub table_is : (u : ℕ) (unit : OutUnit) → Bytes (table_bytes u unit)
table_is u unit = both (each_has (λ (d : ℕ × Declaration). declaration_bytes d.0 d.1) (λ d. declaration_is d.0 d.1) (enumerate_from 1 (table_of u unit.nodes))) (byte 0 (omega arith) none)

-- ---- lists

span_is : (span : Span) → Bytes (span_bytes span)
span_is span = both (number 8 span.low) (number 8 span.high)

kind_is : (version kind : ℕ) → kind < 256 → Bytes (kind_bytes version kind)
kind_is version kind lt = either (version == 5) (byte kind lt none) none

end_is : (version : ℕ) → Bytes (end_of_list version)
end_is version = either (version == 5) (byte DW_RLE_end_of_list (omega arith) none) (zeros 16)

range_is : (version : ℕ) (span : Span) → Bytes (range_bytes version span)
range_is version span = both (kind_is version DW_RLE_start_end (omega arith)) (span_is span)

pub ranges_are : (version : ℕ) (value : OutValue) → Bytes (ranges_bytes version value)
ranges_are version (values.Ranges spans) = both (each_has (range_bytes version) (range_is version) spans) (end_is version)
ranges_are version value = none

size_is : (version n : ℕ) → Bytes (size_bytes version n)
size_is version n = either (version == 5) (unsigned n) (number 2 n)

location_is : (version : ℕ) (nodes : List Node) (place : ℕ → ℕ) (item : OutLocation) → IsLocation version nodes item → Bytes (location_bytes version place item)
location_is version nodes place item is =
    both (kind_is version DW_LLE_start_end (omega arith)) (both (span_is item.span) (both (size_is version (expression_len item.parts)) (expression_is nodes place item.parts is.whole)))

pub locations_are : (MayLead : Target → Type 0) (version : ℕ) (nodes : List Node) (place : ℕ → ℕ) (value : OutValue) → IsValue MayLead version nodes value → Bytes (locations_bytes version place value)
locations_are MayLead version nodes place (values.Locations items) is = both (all_have (IsLocation version nodes) (location_bytes version place) (location_is version nodes place) items is) (end_is version)
locations_are MayLead version nodes place value is = none

-- those of all values of a unit
pub over_values_are : (MayLead : Target → Type 0) (part : OutValue → List ℕ) (unit : OutUnit) → ((value : OutValue) → IsValue MayLead unit.version unit.nodes value → Bytes (part value)) → All (IsNode MayLead unit.version unit.nodes) unit.nodes → Bytes (over_values part unit)
over_values_are MayLead part unit are all =
    all_have (IsNode MayLead unit.version unit.nodes) (λ node. flat_map (λ a. part a.value) node.attrs)
    (λ node is. all_have (IsAttribute MayLead unit.version unit.nodes) (λ a. part a.value) (λ a attr. are a.value attr.value) node.attrs is.attrs) unit.nodes all

header_of : (len : ℕ) → Bytes (lists_header len)
header_of len = both (number 4 (8 + len)) (both (number 2 5) (byte 8 (omega arith) (byte 0 (omega arith) (number 4 0))))

pub behind_header_is : (lists : List ℕ) → Bytes lists → Bytes (behind_header lists)
behind_header_is lists are = either (length lists == 0) none (both (header_of (length lists)) are)

-- ---- addresses

arange_is : (span : Span) → Bytes (arange_bytes span)
arange_is span = both (number 8 span.low) (number 8 (span.high - span.low))

set_is : (start : ℕ) (spans : List Span) → Bytes (set_bytes start spans)
set_is start spans =
    both (number 4 (set_len spans - 4)) (both (number 2 2) (both (number 4 start) (byte 8 (omega arith) (byte 0 (omega arith) (both (zeros 4) (both (each_has arange_bytes arange_is spans) (zeros 16)))))))

pub aranges_are : (start : ℕ) (spans : List Span) → Bytes (aranges_bytes start spans)
aranges_are start spans = either (length spans == 0) none (set_is start spans)

-- ---- values

number_is : (form bits : ℕ) → Bytes (number_bytes form bits)
unfolding number_bytes
number_is form bits =
    either (form == DW_FORM_data1) (number 1 bits) (either (form == DW_FORM_data2) (number 2 bits) (either (form == DW_FORM_data4) (number 4 bits) (either (form == DW_FORM_data8) (number 8 bits)
    (either (form == DW_FORM_flag) (number 1 bits) (either (form == DW_FORM_udata) (unsigned bits) (either (form == DW_FORM_sdata) (signed (cast_signed w64 bits)) none))))))

prefix_is : (form len : ℕ) → Bytes (block_prefix form len)
unfolding block_prefix
prefix_is form len = either (form == DW_FORM_block1) (number 1 len) (either (form == DW_FORM_block2) (number 2 len) (either (form == DW_FORM_block4) (number 4 len) (unsigned len)))

module _ (MayLead : Target → Type 0) (version : ℕ) (nodes : List Node) (places : Places) where
  value_is : (next : ListPlaces) (value : OutValue) → IsValue MayLead version nodes value → Bytes (value_bytes places next value)
  value_is next (values.Address address) is = number 8 address
  value_is next (values.Text text) is = number 4 (places.text text)
  value_is next (values.Number form bits) is = number_is form bits
  value_is next (values.Wide bytes) is = given bytes is.2
  value_is next (values.Block form bytes) is = both (prefix_is form (length bytes)) (given bytes is.1)
  value_is next (values.Expr expression) is = both (unsigned (expression_len expression)) (expression_is nodes (own_node places) expression is)
  value_is next (values.Ref target) is = number 4 (ref_place places target)
  value_is next (values.Ranges spans) is = number 4 next.ranges
  value_is next (values.Locations items) is = number 4 next.locations
  value_is next values.Lines is = number 4 places.lines

  values_are : (next : ListPlaces) (attrs : List OutAttr) → All (IsAttribute MayLead version nodes) attrs → Bytes (values_bytes places next attrs)
  values_are next [] all = none
  values_are next (a ∷ attrs) all =
      both (value_is next a.value (All-head (IsAttribute MayLead version nodes) a attrs all).value) (values_are (behind_value places.version next a.value) attrs (All-tail (IsAttribute MayLead version nodes) a attrs all))

  -- ---- entries

  entry_is : (next : ListPlaces) (entry : OutEntry) → IsNode MayLead version nodes entry.node → Bytes (entry_bytes places next entry)
  entry_is next entry is = both (unsigned entry.code) (both (values_are next entry.node.attrs is.attrs) (zeros entry.ended))

  -- those of the nodes from a number on
  entries_are : (u k : ℕ) (more : List Node) (next : ListPlaces) → All (IsNode MayLead version nodes) more → Bytes (entries_bytes places next (map (λ n. entry_of u nodes n.0 n.1) (enumerate_from k more)))
  entries_are u k [] next all = none
  entries_are u k (node ∷ more) next all =
      both (entry_is next (entry_of u nodes k node) (All-head (IsNode MayLead version nodes) node more all)) (entries_are u (k + 1) more (behind_node places.version next node) (All-tail (IsNode MayLead version nodes) node more all))

fields_are : (version table : ℕ) → Bytes (header_fields version table)
fields_are version table = either (version == 5) (byte DW_UT_compile (omega arith) (byte 8 (omega arith) (number 4 table))) (both (number 4 table) (byte 8 (omega arith) none))

header_is : (u table : ℕ) (unit : OutUnit) → Bytes (header_bytes u table unit)
header_is u table unit = both (number 4 (unit_len u unit - 4)) (both (number 2 unit.version) (fields_are unit.version table))

pub unit_is : (MayLead : Target → Type 0) (places : Places) (next : ListPlaces) (table : ℕ) (unit : OutUnit) → All (IsNode MayLead unit.version unit.nodes) unit.nodes → Bytes (unit_bytes places next table unit)
unit_is MayLead places next table unit all = both (header_is places.unit table unit) (entries_are MayLead unit.version unit.nodes places places.unit 0 unit.nodes next all)
