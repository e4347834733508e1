-- Range lists and location lists as bytes, addresses in eight bytes: of version 4 (DWARF 4, sections 2.17.3 and 2.6.2) and of version 5 (DWARF 5, sections 7.25, 7.28 and 7.29). None has a base selection: each address stands as it is.
use Rattle.std.specs.Prelude.{ℕ, ◌+◌, ◌*◌, ◌==◌, List, [], ◌∷◌, ◌++◌, length, replicate, if◌then◌else◌}
use Rattle.std.specs.List.{sum_by, flat_map}
use Rattle.byteorder.specs.Endian.{little_bytes}
use Rattle.ds_base.specs.DwarfNumbers.{DW_LLE_start_end, DW_RLE_end_of_list, DW_RLE_start_end}
use Rattle.ds_base.specs.Leb.{uleb, uleb_len_of}
use Rattle.dwarf_types.specs.declared.address.Span.{Span}
use Rattle.dwarf_types.specs.declared.graph.OutLocation.{OutLocation}
use Rattle.dwarf_types.specs.declared.graph.OutValue.{OutValue}
use Rattle.dwarf_types.specs.declared.graph.OutValue.TheVariants as values
use Rattle.dwarf_types.specs.Expressions.{expression_len, expression_bytes}

-- ---- what both kinds share, by the version of their unit

-- an item of version 5 begins with its kind
abbrev pub kind_len : ℕ → ℕ
kind_len version = if version == 5 then 1 else 0

abbrev pub kind_bytes : ℕ → ℕ → List ℕ
kind_bytes version kind = if version == 5 then kind ∷ [] else []

abbrev pub span_bytes : Span → List ℕ
span_bytes span = little_bytes 8 span.low ++ little_bytes 8 span.high

-- "an end of list entry": two zeros, or in version 5 its kind, which is one number in both kinds of lists
abbrev pub end_len : ℕ → ℕ
end_len version = if version == 5 then 1 else 16

abbrev pub end_of_list : ℕ → List ℕ
end_of_list version = if version == 5 then DW_RLE_end_of_list ∷ [] else replicate 16 0

-- ---- range lists

-- the two ends of a span
abbrev pub range_bytes : ℕ → Span → List ℕ
range_bytes version span = kind_bytes version DW_RLE_start_end ++ span_bytes span

abbrev pub range_list_len : ℕ → List Span → ℕ
range_list_len version spans = (kind_len version + 16) * length spans + end_len version

abbrev pub range_list_bytes : ℕ → List Span → List ℕ
range_list_bytes version spans = flat_map (range_bytes version) spans ++ end_of_list version

-- the range list of a value, if it is one
abbrev pub ranges_len : ℕ → OutValue → ℕ
ranges_len version (values.Ranges spans) = range_list_len version spans
ranges_len version _ = 0

abbrev pub ranges_bytes : ℕ → OutValue → List ℕ
ranges_bytes version (values.Ranges spans) = range_list_bytes version spans
ranges_bytes version _ = []

-- ---- location lists, by the place of each node in its unit

-- the length of an expression has two bytes, or in version 5 as few as it takes
abbrev pub size_len : ℕ → ℕ → ℕ
size_len version n = if version == 5 then uleb_len_of n else 2

abbrev pub size_bytes : ℕ → ℕ → List ℕ
size_bytes version n = if version == 5 then uleb n else little_bytes 2 n

-- a span, the length of the expression, the expression
abbrev pub location_len : ℕ → OutLocation → ℕ
location_len version item = kind_len version + (16 + (size_len version (expression_len item.parts) + expression_len item.parts))

abbrev pub location_bytes : ℕ → (ℕ → ℕ) → OutLocation → List ℕ
location_bytes version place item =
    kind_bytes version DW_LLE_start_end ++ (span_bytes item.span ++ (size_bytes version (expression_len item.parts) ++ expression_bytes place item.parts))

abbrev pub location_list_len : ℕ → List OutLocation → ℕ
location_list_len version items = sum_by (location_len version) items + end_len version

abbrev pub location_list_bytes : ℕ → (ℕ → ℕ) → List OutLocation → List ℕ
location_list_bytes version place items = flat_map (location_bytes version place) items ++ end_of_list version

-- the location list of a value, if it is one
abbrev pub locations_len : ℕ → OutValue → ℕ
locations_len version (values.Locations items) = location_list_len version items
locations_len version _ = 0

abbrev pub locations_bytes : ℕ → (ℕ → ℕ) → OutValue → List ℕ
locations_bytes version place (values.Locations items) = location_list_bytes version place items
locations_bytes version place _ = []

-- ---- sections of version 5

-- before the lists of a section stands one header, where there are any: unit_length, version, address_size, segment_selector_size, offset_entry_count
abbrev pub lists_header_len : ℕ
lists_header_len = 12

abbrev pub lists_header : ℕ → List ℕ
lists_header len = little_bytes 4 (8 + len) ++ (little_bytes 2 5 ++ (8 ∷ 0 ∷ little_bytes 4 0))

abbrev pub behind_header : List ℕ → List ℕ
behind_header lists = if length lists == 0 then [] else lists_header (length lists) ++ lists
