-- The values of output attributes as bytes (DWARF 4, section 7.5.4).
use Rattle.std.specs.Prelude.{ℕ, ◌+◌, List, [], ◌∷◌, ◌++◌, length, ◌==◌, if◌then◌else◌}
use Rattle.std.specs.List.{sum_by}
use Rattle.std.specs.Int.{w64, cast_signed}
use Rattle.byteorder.specs.Endian.{little_bytes}
use Rattle.ds_base.specs.DwarfNumbers.{DW_FORM_block1, DW_FORM_block2, DW_FORM_block4, DW_FORM_data1, DW_FORM_data2, DW_FORM_data4, DW_FORM_data8, DW_FORM_flag, DW_FORM_sdata, DW_FORM_udata}
use Rattle.ds_base.specs.Leb.{uleb, uleb_len_of, sleb, sleb_len_of}
use Rattle.dwarf_types.specs.declared.graph.OutAttr.{OutAttr}
use Rattle.dwarf_types.specs.declared.graph.OutValue.{OutValue}
use Rattle.dwarf_types.specs.declared.graph.OutValue.TheVariants as values
use Rattle.dwarf_types.specs.Expressions.{expression_len, expression_bytes}
use Rattle.dwarf_types.specs.Places.{Places, ListPlaces, behind_value, own_node, ref_place}

-- ---- lengths

-- a constant or a flag; a flag that is only there has no bytes
unfoldable pub number_len : ℕ → ℕ → ℕ
number_len form bits =
    if form == DW_FORM_data1 then 1 else if form == DW_FORM_data2 then 2
    else if form == DW_FORM_data4 then 4 else if form == DW_FORM_data8 then 8
    else if form == DW_FORM_flag then 1 else if form == DW_FORM_udata then uleb_len_of bits
    else if form == DW_FORM_sdata then sleb_len_of (cast_signed w64 bits) else 0

-- the length that stands before the bytes of a block
unfoldable pub block_prefix_len : ℕ → ℕ → ℕ
block_prefix_len form len =
    if form == DW_FORM_block1 then 1 else if form == DW_FORM_block2 then 2
    else if form == DW_FORM_block4 then 4 else uleb_len_of len

abbrev pub value_len : OutValue → ℕ
value_len (values.Address address) = 8
value_len (values.Text text) = 4
value_len (values.Number form bits) = number_len form bits
value_len (values.Wide bytes) = length bytes
value_len (values.Block form bytes) = block_prefix_len form (length bytes) + length bytes
value_len (values.Expr parts) = uleb_len_of (expression_len parts) + expression_len parts
value_len (values.Ref target) = 4
value_len (values.Ranges spans) = 4
value_len (values.Locations items) = 4
value_len values.Lines = 4

-- the values of an entry
abbrev pub values_len : List OutAttr → ℕ
values_len attrs = sum_by (λ a. value_len a.value) attrs

-- ---- bytes

unfoldable pub number_bytes : ℕ → ℕ → List ℕ
number_bytes form bits =
    if form == DW_FORM_data1 then little_bytes 1 bits else if form == DW_FORM_data2 then little_bytes 2 bits
    else if form == DW_FORM_data4 then little_bytes 4 bits else if form == DW_FORM_data8 then little_bytes 8 bits
    else if form == DW_FORM_flag then little_bytes 1 bits else if form == DW_FORM_udata then uleb bits
    else if form == DW_FORM_sdata then sleb (cast_signed w64 bits) else []

unfoldable pub block_prefix : ℕ → ℕ → List ℕ
block_prefix form len =
    if form == DW_FORM_block1 then little_bytes 1 len else if form == DW_FORM_block2 then little_bytes 2 len
    else if form == DW_FORM_block4 then little_bytes 4 len else uleb len

abbrev pub value_bytes : Places → ListPlaces → OutValue → List ℕ
value_bytes places next (values.Address address) = little_bytes 8 address
value_bytes places next (values.Text text) = little_bytes 4 (places.text text)
value_bytes places next (values.Number form bits) = number_bytes form bits
value_bytes places next (values.Wide bytes) = bytes
value_bytes places next (values.Block form bytes) = block_prefix form (length bytes) ++ bytes
value_bytes places next (values.Expr parts) = uleb (expression_len parts) ++ expression_bytes (own_node places) parts
value_bytes places next (values.Ref target) = little_bytes 4 (ref_place places target)
value_bytes places next (values.Ranges spans) = little_bytes 4 next.ranges
value_bytes places next (values.Locations items) = little_bytes 4 next.locations
value_bytes places next values.Lines = little_bytes 4 places.lines

-- the values of an entry, one after the other
abbrev pub values_bytes : Places → ListPlaces → List OutAttr → List ℕ
values_bytes places next [] = []
values_bytes places next (a ∷ attrs) = value_bytes places next a.value ++ values_bytes places (behind_value places.version next a.value) attrs
