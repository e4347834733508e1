-- A graph of two units with references between them, a line table, lists and frames. The bytes wanted are an assembler's, which placed them by labels.
use Rattle.std.proofs.Common.{inl, ◌≡◌, ℕ, zero, suc, ◌-◌, ◌^◌, ◌<◌, ltb, negsuc, true, false, List, [], ◌∷◌, Some, None, All, refl, sym, ap, ◌∙◌, drop, slice_get, arith}
use Rattle.std.specs.List.{AllByRecursion}
use Rattle.std.proofs.lemmas.Bool.{ltb-true, ltb-false}
use Rattle.std.proofs.lemmas.List.Elements.{All-from_recursion}
use Rattle.std.proofs.lemmas.Option.{same_Some}
use Rattle.ds_base.specs.DwarfNumbers.{DW_TAG_base_type, DW_TAG_compile_unit, DW_TAG_lexical_block, DW_TAG_member, DW_TAG_structure_type, DW_TAG_subprogram, DW_TAG_variable, DW_AT_byte_size, DW_AT_const_value, DW_AT_data_member_location, DW_AT_encoding, DW_AT_external, DW_AT_frame_base, DW_AT_high_pc, DW_AT_location, DW_AT_low_pc, DW_AT_name, DW_AT_ranges, DW_AT_signature, DW_AT_stmt_list, DW_AT_type, DW_FORM_block1, DW_FORM_data1, DW_FORM_data8, DW_FORM_flag_present, DW_FORM_sdata, DW_FORM_udata}
use Rattle.ds_base.specs.Leb.{IsSpelled, uleb, sleb}
use Rattle.dwarf_types.specs.declared.address.Span.{Span}
use Rattle.dwarf_types.specs.declared.graph.Graph.{Graph}
use Rattle.dwarf_types.specs.declared.graph.Node.{Node}
use Rattle.dwarf_types.specs.declared.graph.OutAttr.{OutAttr}
use Rattle.dwarf_types.specs.declared.graph.OutLocation.{OutLocation}
use Rattle.dwarf_types.specs.declared.graph.OutUnit.{OutUnit}
use Rattle.dwarf_types.specs.declared.graph.OutValue.{OutValue}
use Rattle.dwarf_types.specs.declared.graph.OutValue.TheVariants as values
use Rattle.dwarf_types.specs.declared.lines.OutLines.{OutLines}
use Rattle.dwarf_types.specs.declared.lines.Row.{Row}
use Rattle.dwarf_types.specs.declared.parts.ExprPart.{ExprPart}
use Rattle.dwarf_types.specs.declared.parts.ExprPart.TheVariants as parts
use Rattle.dwarf_types.specs.declared.parts.PlainPart.TheVariants as plain
use Rattle.dwarf_types.specs.declared.operands.Named.TheVariants.{Nothing}
use Rattle.dwarf_types.specs.declared.operands.Operands.TheVariants as operands
use Rattle.dwarf_types.specs.Operations.{has_no_operands, operands_of}
use Rattle.dwarf_types.specs.Expressions.{expression_len}
use Rattle.dwarf_types.specs.Spelled.{AreBytes, AreTextBytes, IsNumber}
use Rattle.dwarf_types.specs.Values.{block_prefix, block_prefix_len, number_bytes, number_len}
use Rattle.dwarf_types.specs.Well.{IsWell, IsWellUnit}
use Rattle.dwarf_types.specs.WellNodes.{IsAttribute, IsNode, IsPreorderParent, IsUp, has_lines, is_dropped}
use Rattle.dwarf_types.specs.WellRoots.{without_ranges, with_ranges}
use Rattle.dwarf_types.specs.WellLines.{IsFile, IsFrame, IsLineTable, IsPath, IsRow, IsSequence, none_has}
use Rattle.dwarf_types.specs.WellValues.{IsLocation, IsSpan, IsValue, IsTarget, MayStand, in_block1, in_data1, in_data8, in_flag_present, in_sdata, in_udata}
use Rattle.dwarf_types.specs.WholeParts.{IsOperation, AreOperations, IsWholePart, IsWholePlainPart, IsWhole}
use Rattle.dwarf_types.specs.Encode.{abbrev_section, info_section, str_section, line_section, ranges_section, loc_section, aranges_section, frame_section}

-- ---- the graph

attr : ℕ → OutValue → OutAttr
attr name value = record { name = name; value = value }

entry : ℕ → ℕ → List OutAttr → Node
entry parent tag attrs = record { parent = Some parent; tag = tag; attrs = attrs }

root : List OutAttr → Node
root attrs = record { parent = None; tag = DW_TAG_compile_unit; attrs = attrs }

-- the texts `u` and `int`
u : OutValue
u = values.Text (0x75 ∷ [])

int : OutValue
int = values.Text (0x69 ∷ 0x6e ∷ 0x74 ∷ [])

to : ℕ → ℕ → OutValue
to unit node = values.Ref (record { unit = unit; node = node })

span : ℕ → ℕ → Span
span low high = record { low = low; high = high }

location : ℕ → ℕ → List ExprPart → OutLocation
location low high expression = record { span = span low high; parts = expression }

stretch : List ℕ → List ExprPart
stretch bytes = parts.Plain bytes ∷ []

-- an entry value of register 5, converted to node 1
converted : List ExprPart
converted = parts.Nested 0xa3 (plain.Plain (0x55 ∷ []) ∷ []) ∷ parts.Typed 0xa8 [] (Some 1) [] ∷ parts.Plain (0x9f ∷ []) ∷ []

row : ℕ → ℕ → Row
row address line = record { address = address; file = 1; line = line; column = 0; discriminator = 0; isa = 0; is_stmt = true; basic_block = false; prologue_end = false; epilogue_begin = false }

rows : List Row
rows =
    row 0x1000 5
    ∷ record (row 0x1004 3) { column = 7; discriminator = 2; is_stmt = false; basic_block = true; prologue_end = true; epilogue_begin = true }
    ∷ record (row 0x1004 200) { file = 2; column = 7; is_stmt = false }
    ∷ record (row 0x1130 200) { file = 2; column = 7; isa = 3 } ∷ []

lines : OutLines
lines = record {
  dirs = (0x64 ∷ []) ∷ [];
  files = record { name = 0x66 ∷ 0x2e ∷ 0x63 ∷ []; dir = 1; time = 0; size = 0; digest = None } ∷ [];
  sequences = record { rows = rows; end = 0x1134 } ∷ [];
}

first : OutUnit
first = record {
  version = 4;
  nodes =
      root (attr DW_AT_name u ∷ attr DW_AT_stmt_list values.Lines ∷ [])
      ∷ entry 0 DW_TAG_base_type (attr DW_AT_name int ∷ attr DW_AT_byte_size (values.Number DW_FORM_data1 4) ∷ attr DW_AT_encoding (values.Number DW_FORM_data1 5) ∷ [])
      ∷ entry 0 DW_TAG_subprogram (
      attr DW_AT_low_pc (values.Address 0x1000) ∷ attr DW_AT_high_pc (values.Number DW_FORM_data8 0x20) ∷ attr DW_AT_type (to 0 1)
      ∷ attr DW_AT_frame_base (values.Expr (stretch (0x56 ∷ []))) ∷ [])
      ∷ entry 2 DW_TAG_variable (attr DW_AT_location (values.Locations (location 0x1000 0x1010 converted ∷ [])) ∷ attr DW_AT_type (to 1 1) ∷ [])
      ∷ entry 2 DW_TAG_lexical_block (attr DW_AT_ranges (values.Ranges (span 0x1000 0x1004 ∷ span 0x1008 0x100c ∷ [])) ∷ [])
      ∷ entry 4 DW_TAG_variable (
      attr DW_AT_location (values.Locations (location 0x1000 0x1004 (stretch (0x50 ∷ [])) ∷ location 0x1004 0x1008 (stretch (0x51 ∷ [])) ∷ []))
      ∷ attr DW_AT_type (to 0 1) ∷ [])
      ∷ entry 0 DW_TAG_variable (attr DW_AT_const_value (values.Number DW_FORM_sdata (2 ^ 64 - 2)) ∷ attr DW_AT_external (values.Number DW_FORM_flag_present 1) ∷ []) ∷ [];
  lines = Some lines;
  ranges = [];
}

second : OutUnit
second = record {
  version = 4;
  nodes =
      root (attr DW_AT_name u ∷ attr DW_AT_low_pc (values.Address 0) ∷ attr DW_AT_ranges (values.Ranges (span 0x1000 0x1020 ∷ [])) ∷ [])
      ∷ entry 0 DW_TAG_structure_type (attr DW_AT_name int ∷ attr DW_AT_signature (values.Block DW_FORM_block1 (0xaa ∷ 0xbb ∷ [])) ∷ [])
      ∷ entry 1 DW_TAG_member (attr DW_AT_type (to 0 1) ∷ attr DW_AT_data_member_location (values.Number DW_FORM_udata 300) ∷ [])
      ∷ entry 0 DW_TAG_variable (attr DW_AT_location (values.Locations (location 0x1000 0x1020 (stretch (0x70 ∷ 0x7f ∷ [])) ∷ [])) ∷ []) ∷ [];
  lines = None;
  ranges = span 0x1000 0x1020 ∷ [];
}

-- the content of a CIE with this data alignment factor
cie : ℕ → List ℕ
cie factor = 0x04 ∷ 0x00 ∷ 0x08 ∷ 0x00 ∷ 0x01 ∷ factor ∷ 0x1e ∷ 0x00 ∷ []

graph : Graph
graph = record {
  units = first ∷ second ∷ [];
  frames =
      record { cie = cie 0x78; address = 0x1000; length = 0x10; code = 0x41 ∷ 0x0e ∷ 0x10 ∷ 0x00 ∷ [] }
      ∷ record { cie = cie 0x7c; address = 0x1010; length = 8; code = [] }
      ∷ record { cie = cie 0x78; address = 0x1018; length = 8; code = [] } ∷ [];
}

-- ---- its sections

in_abbrev : abbrev_section graph ≡
    0x01 ∷ 0x11 ∷ 0x01 ∷ 0x03 ∷ 0x0e ∷ 0x10 ∷ 0x17 ∷ 0x00 ∷ 0x00 ∷ 0x02 ∷ 0x24 ∷ 0x00 ∷ 0x03 ∷ 0x0e ∷ 0x0b ∷ 0x0b ∷ 0x3e ∷ 0x0b ∷ 0x00 ∷ 0x00 ∷ 0x03 ∷ 0x2e ∷ 0x01 ∷ 0x11
    ∷ 0x01 ∷ 0x12 ∷ 0x07 ∷ 0x49 ∷ 0x13 ∷ 0x40 ∷ 0x18 ∷ 0x00 ∷ 0x00 ∷ 0x04 ∷ 0x34 ∷ 0x00 ∷ 0x02 ∷ 0x17 ∷ 0x49 ∷ 0x10 ∷ 0x00 ∷ 0x00 ∷ 0x05 ∷ 0x0b ∷ 0x01 ∷ 0x55 ∷ 0x17 ∷ 0x00
    ∷ 0x00 ∷ 0x06 ∷ 0x34 ∷ 0x00 ∷ 0x02 ∷ 0x17 ∷ 0x49 ∷ 0x13 ∷ 0x00 ∷ 0x00 ∷ 0x07 ∷ 0x34 ∷ 0x00 ∷ 0x1c ∷ 0x0d ∷ 0x3f ∷ 0x19 ∷ 0x00 ∷ 0x00 ∷ 0x00 ∷ 0x01 ∷ 0x11 ∷ 0x01 ∷ 0x03
    ∷ 0x0e ∷ 0x11 ∷ 0x01 ∷ 0x55 ∷ 0x17 ∷ 0x00 ∷ 0x00 ∷ 0x02 ∷ 0x13 ∷ 0x01 ∷ 0x03 ∷ 0x0e ∷ 0x69 ∷ 0x0a ∷ 0x00 ∷ 0x00 ∷ 0x03 ∷ 0x0d ∷ 0x00 ∷ 0x49 ∷ 0x10 ∷ 0x38 ∷ 0x0f ∷ 0x00
    ∷ 0x00 ∷ 0x04 ∷ 0x34 ∷ 0x00 ∷ 0x02 ∷ 0x17 ∷ 0x00 ∷ 0x00 ∷ 0x00 ∷ []
unfolding attr entry root u int to span location stretch converted row rows lines first second cie graph uleb sleb number_len number_bytes block_prefix_len block_prefix
in_abbrev = refl

in_info : info_section graph ≡
    0x4a ∷ 0x00 ∷ 0x00 ∷ 0x00 ∷ 0x04 ∷ 0x00 ∷ 0x00 ∷ 0x00 ∷ 0x00 ∷ 0x00 ∷ 0x08 ∷ 0x01 ∷ 0x00 ∷ 0x00 ∷ 0x00 ∷ 0x00 ∷ 0x00 ∷ 0x00 ∷ 0x00 ∷ 0x00 ∷ 0x02 ∷ 0x02 ∷ 0x00 ∷ 0x00
    ∷ 0x00 ∷ 0x04 ∷ 0x05 ∷ 0x03 ∷ 0x00 ∷ 0x10 ∷ 0x00 ∷ 0x00 ∷ 0x00 ∷ 0x00 ∷ 0x00 ∷ 0x00 ∷ 0x20 ∷ 0x00 ∷ 0x00 ∷ 0x00 ∷ 0x00 ∷ 0x00 ∷ 0x00 ∷ 0x00 ∷ 0x14 ∷ 0x00 ∷ 0x00 ∷ 0x00
    ∷ 0x01 ∷ 0x56 ∷ 0x04 ∷ 0x00 ∷ 0x00 ∷ 0x00 ∷ 0x00 ∷ 0x6a ∷ 0x00 ∷ 0x00 ∷ 0x00 ∷ 0x05 ∷ 0x00 ∷ 0x00 ∷ 0x00 ∷ 0x00 ∷ 0x06 ∷ 0x2b ∷ 0x00 ∷ 0x00 ∷ 0x00 ∷ 0x14 ∷ 0x00 ∷ 0x00
    ∷ 0x00 ∷ 0x00 ∷ 0x00 ∷ 0x07 ∷ 0x7e ∷ 0x00 ∷ 0x2e ∷ 0x00 ∷ 0x00 ∷ 0x00 ∷ 0x04 ∷ 0x00 ∷ 0x44 ∷ 0x00 ∷ 0x00 ∷ 0x00 ∷ 0x08 ∷ 0x01 ∷ 0x00 ∷ 0x00 ∷ 0x00 ∷ 0x00 ∷ 0x00 ∷ 0x00
    ∷ 0x00 ∷ 0x00 ∷ 0x00 ∷ 0x00 ∷ 0x00 ∷ 0x00 ∷ 0x30 ∷ 0x00 ∷ 0x00 ∷ 0x00 ∷ 0x02 ∷ 0x02 ∷ 0x00 ∷ 0x00 ∷ 0x00 ∷ 0x02 ∷ 0xaa ∷ 0xbb ∷ 0x03 ∷ 0x14 ∷ 0x00 ∷ 0x00 ∷ 0x00 ∷ 0xac
    ∷ 0x02 ∷ 0x00 ∷ 0x04 ∷ 0x61 ∷ 0x00 ∷ 0x00 ∷ 0x00 ∷ 0x00 ∷ []
unfolding attr entry root u int to span location stretch converted row rows lines first second cie graph uleb sleb number_len number_bytes block_prefix_len block_prefix
in_info = refl

in_str : str_section graph ≡
    0x75 ∷ 0x00 ∷ 0x69 ∷ 0x6e ∷ 0x74 ∷ 0x00 ∷ []
unfolding attr entry root u int to span location stretch converted row rows lines first second cie graph uleb sleb number_len number_bytes block_prefix_len block_prefix
in_str = refl

in_line : line_section graph ≡
    0x4c ∷ 0x00 ∷ 0x00 ∷ 0x00 ∷ 0x04 ∷ 0x00 ∷ 0x1d ∷ 0x00 ∷ 0x00 ∷ 0x00 ∷ 0x01 ∷ 0x01 ∷ 0x01 ∷ 0xfb ∷ 0x0e ∷ 0x0d ∷ 0x00 ∷ 0x01 ∷ 0x01 ∷ 0x01 ∷ 0x01 ∷ 0x00 ∷ 0x00 ∷ 0x00
    ∷ 0x01 ∷ 0x00 ∷ 0x00 ∷ 0x01 ∷ 0x64 ∷ 0x00 ∷ 0x00 ∷ 0x66 ∷ 0x2e ∷ 0x63 ∷ 0x00 ∷ 0x01 ∷ 0x00 ∷ 0x00 ∷ 0x00 ∷ 0x00 ∷ 0x09 ∷ 0x02 ∷ 0x00 ∷ 0x10 ∷ 0x00 ∷ 0x00 ∷ 0x00 ∷ 0x00
    ∷ 0x00 ∷ 0x00 ∷ 0x16 ∷ 0x05 ∷ 0x07 ∷ 0x00 ∷ 0x02 ∷ 0x04 ∷ 0x02 ∷ 0x06 ∷ 0x07 ∷ 0x0a ∷ 0x0b ∷ 0x48 ∷ 0x04 ∷ 0x02 ∷ 0x03 ∷ 0xc5 ∷ 0x01 ∷ 0x01 ∷ 0x0c ∷ 0x03 ∷ 0x06 ∷ 0x02
    ∷ 0xac ∷ 0x02 ∷ 0x01 ∷ 0x02 ∷ 0x04 ∷ 0x00 ∷ 0x01 ∷ 0x01 ∷ []
unfolding attr entry root u int to span location stretch converted row rows lines first second cie graph uleb sleb number_len number_bytes block_prefix_len block_prefix
in_line = refl

in_ranges : ranges_section graph ≡
    0x00 ∷ 0x10 ∷ 0x00 ∷ 0x00 ∷ 0x00 ∷ 0x00 ∷ 0x00 ∷ 0x00 ∷ 0x04 ∷ 0x10 ∷ 0x00 ∷ 0x00 ∷ 0x00 ∷ 0x00 ∷ 0x00 ∷ 0x00 ∷ 0x08 ∷ 0x10 ∷ 0x00 ∷ 0x00 ∷ 0x00 ∷ 0x00 ∷ 0x00 ∷ 0x00
    ∷ 0x0c ∷ 0x10 ∷ 0x00 ∷ 0x00 ∷ 0x00 ∷ 0x00 ∷ 0x00 ∷ 0x00 ∷ 0x00 ∷ 0x00 ∷ 0x00 ∷ 0x00 ∷ 0x00 ∷ 0x00 ∷ 0x00 ∷ 0x00 ∷ 0x00 ∷ 0x00 ∷ 0x00 ∷ 0x00 ∷ 0x00 ∷ 0x00 ∷ 0x00 ∷ 0x00
    ∷ 0x00 ∷ 0x10 ∷ 0x00 ∷ 0x00 ∷ 0x00 ∷ 0x00 ∷ 0x00 ∷ 0x00 ∷ 0x20 ∷ 0x10 ∷ 0x00 ∷ 0x00 ∷ 0x00 ∷ 0x00 ∷ 0x00 ∷ 0x00 ∷ 0x00 ∷ 0x00 ∷ 0x00 ∷ 0x00 ∷ 0x00 ∷ 0x00 ∷ 0x00 ∷ 0x00
    ∷ 0x00 ∷ 0x00 ∷ 0x00 ∷ 0x00 ∷ 0x00 ∷ 0x00 ∷ 0x00 ∷ 0x00 ∷ []
unfolding attr entry root u int to span location stretch converted row rows lines first second cie graph uleb sleb number_len number_bytes block_prefix_len block_prefix
in_ranges = refl

in_loc : loc_section graph ≡
    0x00 ∷ 0x10 ∷ 0x00 ∷ 0x00 ∷ 0x00 ∷ 0x00 ∷ 0x00 ∷ 0x00 ∷ 0x10 ∷ 0x10 ∷ 0x00 ∷ 0x00 ∷ 0x00 ∷ 0x00 ∷ 0x00 ∷ 0x00 ∷ 0x09 ∷ 0x00 ∷ 0xa3 ∷ 0x01 ∷ 0x55 ∷ 0xa8 ∷ 0x94 ∷ 0x80
    ∷ 0x80 ∷ 0x00 ∷ 0x9f ∷ 0x00 ∷ 0x00 ∷ 0x00 ∷ 0x00 ∷ 0x00 ∷ 0x00 ∷ 0x00 ∷ 0x00 ∷ 0x00 ∷ 0x00 ∷ 0x00 ∷ 0x00 ∷ 0x00 ∷ 0x00 ∷ 0x00 ∷ 0x00 ∷ 0x00 ∷ 0x10 ∷ 0x00 ∷ 0x00 ∷ 0x00
    ∷ 0x00 ∷ 0x00 ∷ 0x00 ∷ 0x04 ∷ 0x10 ∷ 0x00 ∷ 0x00 ∷ 0x00 ∷ 0x00 ∷ 0x00 ∷ 0x00 ∷ 0x01 ∷ 0x00 ∷ 0x50 ∷ 0x04 ∷ 0x10 ∷ 0x00 ∷ 0x00 ∷ 0x00 ∷ 0x00 ∷ 0x00 ∷ 0x00 ∷ 0x08 ∷ 0x10
    ∷ 0x00 ∷ 0x00 ∷ 0x00 ∷ 0x00 ∷ 0x00 ∷ 0x00 ∷ 0x01 ∷ 0x00 ∷ 0x51 ∷ 0x00 ∷ 0x00 ∷ 0x00 ∷ 0x00 ∷ 0x00 ∷ 0x00 ∷ 0x00 ∷ 0x00 ∷ 0x00 ∷ 0x00 ∷ 0x00 ∷ 0x00 ∷ 0x00 ∷ 0x00 ∷ 0x00
    ∷ 0x00 ∷ 0x00 ∷ 0x10 ∷ 0x00 ∷ 0x00 ∷ 0x00 ∷ 0x00 ∷ 0x00 ∷ 0x00 ∷ 0x20 ∷ 0x10 ∷ 0x00 ∷ 0x00 ∷ 0x00 ∷ 0x00 ∷ 0x00 ∷ 0x00 ∷ 0x02 ∷ 0x00 ∷ 0x70 ∷ 0x7f ∷ 0x00 ∷ 0x00 ∷ 0x00
    ∷ 0x00 ∷ 0x00 ∷ 0x00 ∷ 0x00 ∷ 0x00 ∷ 0x00 ∷ 0x00 ∷ 0x00 ∷ 0x00 ∷ 0x00 ∷ 0x00 ∷ 0x00 ∷ 0x00 ∷ []
unfolding attr entry root u int to span location stretch converted row rows lines first second cie graph uleb sleb number_len number_bytes block_prefix_len block_prefix
in_loc = refl

in_aranges : aranges_section graph ≡
    0x2c ∷ 0x00 ∷ 0x00 ∷ 0x00 ∷ 0x02 ∷ 0x00 ∷ 0x4e ∷ 0x00 ∷ 0x00 ∷ 0x00 ∷ 0x08 ∷ 0x00 ∷ 0x00 ∷ 0x00 ∷ 0x00 ∷ 0x00 ∷ 0x00 ∷ 0x10 ∷ 0x00 ∷ 0x00 ∷ 0x00 ∷ 0x00 ∷ 0x00 ∷ 0x00
    ∷ 0x20 ∷ 0x00 ∷ 0x00 ∷ 0x00 ∷ 0x00 ∷ 0x00 ∷ 0x00 ∷ 0x00 ∷ 0x00 ∷ 0x00 ∷ 0x00 ∷ 0x00 ∷ 0x00 ∷ 0x00 ∷ 0x00 ∷ 0x00 ∷ 0x00 ∷ 0x00 ∷ 0x00 ∷ 0x00 ∷ 0x00 ∷ 0x00 ∷ 0x00 ∷ 0x00 ∷ []
unfolding attr entry root u int to span location stretch converted row rows lines first second cie graph uleb sleb number_len number_bytes block_prefix_len block_prefix
in_aranges = refl

in_frame : frame_section graph ≡
    0x0c ∷ 0x00 ∷ 0x00 ∷ 0x00 ∷ 0xff ∷ 0xff ∷ 0xff ∷ 0xff ∷ 0x04 ∷ 0x00 ∷ 0x08 ∷ 0x00 ∷ 0x01 ∷ 0x78 ∷ 0x1e ∷ 0x00 ∷ 0x18 ∷ 0x00 ∷ 0x00 ∷ 0x00 ∷ 0x00 ∷ 0x00 ∷ 0x00 ∷ 0x00
    ∷ 0x00 ∷ 0x10 ∷ 0x00 ∷ 0x00 ∷ 0x00 ∷ 0x00 ∷ 0x00 ∷ 0x00 ∷ 0x10 ∷ 0x00 ∷ 0x00 ∷ 0x00 ∷ 0x00 ∷ 0x00 ∷ 0x00 ∷ 0x00 ∷ 0x41 ∷ 0x0e ∷ 0x10 ∷ 0x00 ∷ 0x0c ∷ 0x00 ∷ 0x00 ∷ 0x00
    ∷ 0xff ∷ 0xff ∷ 0xff ∷ 0xff ∷ 0x04 ∷ 0x00 ∷ 0x08 ∷ 0x00 ∷ 0x01 ∷ 0x7c ∷ 0x1e ∷ 0x00 ∷ 0x14 ∷ 0x00 ∷ 0x00 ∷ 0x00 ∷ 0x2c ∷ 0x00 ∷ 0x00 ∷ 0x00 ∷ 0x10 ∷ 0x10 ∷ 0x00 ∷ 0x00
    ∷ 0x00 ∷ 0x00 ∷ 0x00 ∷ 0x00 ∷ 0x08 ∷ 0x00 ∷ 0x00 ∷ 0x00 ∷ 0x00 ∷ 0x00 ∷ 0x00 ∷ 0x00 ∷ 0x14 ∷ 0x00 ∷ 0x00 ∷ 0x00 ∷ 0x00 ∷ 0x00 ∷ 0x00 ∷ 0x00 ∷ 0x18 ∷ 0x10 ∷ 0x00 ∷ 0x00
    ∷ 0x00 ∷ 0x00 ∷ 0x00 ∷ 0x00 ∷ 0x08 ∷ 0x00 ∷ 0x00 ∷ 0x00 ∷ 0x00 ∷ 0x00 ∷ 0x00 ∷ 0x00 ∷ []
unfolding attr entry root u int to span location stretch converted row rows lines first second cie graph uleb sleb number_len number_bytes block_prefix_len block_prefix
in_frame = refl

-- ---- it is well

is_byte : (b : ℕ) → b < 256 → IsNumber 1 (b ∷ []) b
is_byte b lt = record { is = ap (λ (n : ℕ). n ∷ []) (omega (arith, lt)); fits = lt }

-- an operation of its code alone
code_alone : (code : ℕ) → ltb code 256 ≡ true → operands_of code ≡ Some operands.Empty → AreOperations (code ∷ [])
code_alone code lt known = record {
  operations = (code ∷ []) ∷ [];
  is = refl;
  some = omega arith;
  each = All-from_recursion IsOperation ((code ∷ []) ∷ []) (
    record {
      code = code;
      row = operands.Empty;
      known = known;
      named = Nothing;
      spells = record { front = code ∷ []; back = []; is = refl; first = is_byte code (ltb-true _ _ lt); second = (refl, refl) };
      alone = tt;
    },
    tt,
  );
}

-- register 0 less 1
register : AreOperations (0x70 ∷ 0x7f ∷ [])
unfolding operands_of has_no_operands
register = record {
  operations = (0x70 ∷ 0x7f ∷ []) ∷ [];
  is = refl;
  some = omega arith;
  each = All-from_recursion IsOperation ((0x70 ∷ 0x7f ∷ []) ∷ []) (
    record {
      code = 0x70;
      row = operands.Sleb;
      known = refl;
      named = Nothing;
      spells = record {
        front = 0x70 ∷ [];
        back = 0x7f ∷ [];
        is = refl;
        first = is_byte 0x70 (omega arith);
        second = record { of = negsuc 0; spells = record { spelled = IsSpelled.last 0x7f (omega arith); value = refl; fits = refl }; is = refl };
      };
      alone = tt;
    },
    tt,
  );
}

is_stretch : (nodes : List Node) (bytes : List ℕ) → AreOperations bytes → IsWhole nodes (stretch bytes)
unfolding stretch
is_stretch nodes bytes whole = record { each = All-from_recursion (IsWholePart nodes) (parts.Plain bytes ∷ []) (whole, tt); apart = tt }

converted_whole : IsWhole first.nodes converted
unfolding attr entry root u int to span location stretch converted row rows lines first second cie graph operands_of has_no_operands
converted_whole = record {
  each = All-from_recursion (IsWholePart first.nodes) converted (
    (refl, record { each = All-from_recursion (IsWholePlainPart first.nodes) (plain.Plain (0x55 ∷ []) ∷ []) (code_alone 0x55 refl refl, tt); apart = tt }),
    (
      record { row = operands.Base; known = refl; spells = (refl, refl); base_is = record { node = entry 0 DW_TAG_base_type (attr DW_AT_name int ∷ attr DW_AT_byte_size (values.Number DW_FORM_data1 4) ∷ attr DW_AT_encoding (values.Number DW_FORM_data1 5) ∷ []); stands = refl; tag = refl } },
      (code_alone 0x9f refl refl, tt),
    ),
  );
  apart = tt;
}

-- an attribute with a name that may stand
attribute : (nodes : List Node) (name : ℕ) (value : OutValue) → ltb 0 name ≡ true → ltb name (2 ^ 16) ≡ true → is_dropped name ≡ false → IsValue (IsTarget graph) 4 nodes value → MayStand name value → IsAttribute (IsTarget graph) 4 nodes (attr name value)
unfolding attr
attribute nodes name value some fits kept holds stands = record { some = ltb-true _ _ some; fits = ltb-true _ _ fits; kept = kept; value = holds; stands = stands }

byte_texts : AreTextBytes (0x75 ∷ []) × AreTextBytes (0x69 ∷ 0x6e ∷ 0x74 ∷ [])
byte_texts = (((omega arith, omega arith), tt), ((omega arith, omega arith), ((omega arith, omega arith), ((omega arith, omega arith), tt))))

is_span : (low high : ℕ) → ltb low high ≡ true → ltb high (2 ^ 64) ≡ true → IsSpan (span low high)
unfolding span
is_span low high some fits = record { some = ltb-true _ _ some; fits = ltb-true _ _ fits }

is_location : (nodes : List Node) (low high : ℕ) (expression : List ExprPart) → ltb low high ≡ true → ltb high (2 ^ 64) ≡ true → IsWhole nodes expression → ltb (expression_len expression) (2 ^ 16) ≡ true → IsLocation 4 nodes (location low high expression)
unfolding location
is_location nodes low high expression some fits whole short = record { span = is_span low high some fits; whole = whole; short = λ four. ltb-true _ _ short }

node_of : (nodes : List Node) (node : Node) → ltb 0 node.tag ≡ true → ltb node.tag (2 ^ 16) ≡ true → AllByRecursion (IsAttribute (IsTarget graph) 4 nodes) node.attrs → IsNode (IsTarget graph) 4 nodes node
node_of nodes node some fits each = record { some = ltb-true _ _ some; fits = ltb-true _ _ fits; attrs = All-from_recursion (IsAttribute (IsTarget graph) 4 nodes) node.attrs each }

-- of the first unit, and of the second
in_first : (name : ℕ) (value : OutValue) → ltb 0 name ≡ true → ltb name (2 ^ 16) ≡ true → is_dropped name ≡ false → IsValue (IsTarget graph) 4 first.nodes value → MayStand name value → IsAttribute (IsTarget graph) 4 first.nodes (attr name value)
in_first name value some fits kept holds stands = attribute first.nodes name value some fits kept holds stands

in_second : (name : ℕ) (value : OutValue) → ltb 0 name ≡ true → ltb name (2 ^ 16) ≡ true → is_dropped name ≡ false → IsValue (IsTarget graph) 4 second.nodes value → MayStand name value → IsAttribute (IsTarget graph) 4 second.nodes (attr name value)
in_second name value some fits kept holds stands = attribute second.nodes name value some fits kept holds stands

first_nodes : All (IsNode (IsTarget graph) 4 first.nodes) first.nodes
unfolding attr entry root u int to span location stretch converted row rows lines first second cie graph operands_of has_no_operands
first_nodes =
    let of : (node : Node) → ltb 0 node.tag ≡ true → ltb node.tag (2 ^ 16) ≡ true → AllByRecursion (IsAttribute (IsTarget graph) 4 first.nodes) node.attrs → IsNode (IsTarget graph) 4 first.nodes node = node_of first.nodes in
    let base : IsTarget graph (record { unit = 0; node = 1 }) = record { unit = first; stands = refl; inside = omega arith } in
    let structure : IsTarget graph (record { unit = 1; node = 1 }) = record { unit = second; stands = refl; inside = omega arith } in
    All-from_recursion (IsNode (IsTarget graph) 4 first.nodes) first.nodes (
      of _ refl refl (in_first DW_AT_name u refl refl refl byte_texts.0 tt, (in_first DW_AT_stmt_list values.Lines refl refl refl tt tt, tt)),
      (
        of _ refl refl (
          in_first DW_AT_name int refl refl refl byte_texts.1 tt,
          (
            in_first DW_AT_byte_size (values.Number DW_FORM_data1 4) refl refl refl (in_data1 refl (omega arith)) tt,
            (in_first DW_AT_encoding (values.Number DW_FORM_data1 5) refl refl refl (in_data1 refl (omega arith)) tt, tt),
          ),
        ),
        (
          of _ refl refl (
            in_first DW_AT_low_pc (values.Address 0x1000) refl refl refl (omega arith) tt,
            (
              in_first DW_AT_high_pc (values.Number DW_FORM_data8 0x20) refl refl refl (in_data8 refl (omega arith)) tt,
              (
                in_first DW_AT_type (to 0 1) refl refl refl base tt,
                (in_first DW_AT_frame_base (values.Expr (stretch (0x56 ∷ []))) refl refl refl (is_stretch first.nodes (0x56 ∷ []) (code_alone 0x56 refl refl)) tt, tt),
              ),
            ),
          ),
          (
            of _ refl refl (
              in_first DW_AT_location (values.Locations (location 0x1000 0x1010 converted ∷ [])) refl refl refl
                  (All-from_recursion (IsLocation 4 first.nodes) (location 0x1000 0x1010 converted ∷ []) (is_location first.nodes 0x1000 0x1010 converted refl refl converted_whole refl, tt)) refl,
              (in_first DW_AT_type (to 1 1) refl refl refl structure tt, tt),
            ),
            (
              of _ refl refl (
                in_first DW_AT_ranges (values.Ranges (span 0x1000 0x1004 ∷ span 0x1008 0x100c ∷ [])) refl refl refl
                    (All-from_recursion IsSpan (span 0x1000 0x1004 ∷ span 0x1008 0x100c ∷ []) (is_span 0x1000 0x1004 refl refl, (is_span 0x1008 0x100c refl refl, tt))) refl,
                tt,
              ),
              (
                of _ refl refl (
                  in_first DW_AT_location (values.Locations (location 0x1000 0x1004 (stretch (0x50 ∷ [])) ∷ location 0x1004 0x1008 (stretch (0x51 ∷ [])) ∷ [])) refl refl refl
                      (All-from_recursion (IsLocation 4 first.nodes) (location 0x1000 0x1004 (stretch (0x50 ∷ [])) ∷ location 0x1004 0x1008 (stretch (0x51 ∷ [])) ∷ []) (
                        is_location first.nodes 0x1000 0x1004 (stretch (0x50 ∷ [])) refl refl (is_stretch first.nodes (0x50 ∷ []) (code_alone 0x50 refl refl)) refl,
                        (is_location first.nodes 0x1004 0x1008 (stretch (0x51 ∷ [])) refl refl (is_stretch first.nodes (0x51 ∷ []) (code_alone 0x51 refl refl)) refl, tt),
                      )) refl,
                  (in_first DW_AT_type (to 0 1) refl refl refl base tt, tt),
                ),
                (
                  of _ refl refl (
                    in_first DW_AT_const_value (values.Number DW_FORM_sdata (2 ^ 64 - 2)) refl refl refl (in_sdata refl (ltb-true _ _ refl)) tt,
                    (in_first DW_AT_external (values.Number DW_FORM_flag_present 1) refl refl refl (in_flag_present refl refl) tt, tt),
                  ),
                  tt,
                ),
              ),
            ),
          ),
        ),
      ),
    )

second_nodes : All (IsNode (IsTarget graph) 4 second.nodes) second.nodes
unfolding attr entry root u int to span location stretch converted row rows lines first second cie graph operands_of has_no_operands
second_nodes =
    let of : (node : Node) → ltb 0 node.tag ≡ true → ltb node.tag (2 ^ 16) ≡ true → AllByRecursion (IsAttribute (IsTarget graph) 4 second.nodes) node.attrs → IsNode (IsTarget graph) 4 second.nodes node = node_of second.nodes in
    let base : IsTarget graph (record { unit = 0; node = 1 }) = record { unit = first; stands = refl; inside = omega arith } in
    All-from_recursion (IsNode (IsTarget graph) 4 second.nodes) second.nodes (
      of _ refl refl (
        in_second DW_AT_name u refl refl refl byte_texts.0 tt,
        (
          in_second DW_AT_low_pc (values.Address 0) refl refl refl (omega arith) tt,
          (in_second DW_AT_ranges (values.Ranges (span 0x1000 0x1020 ∷ [])) refl refl refl (All-from_recursion IsSpan (span 0x1000 0x1020 ∷ []) (is_span 0x1000 0x1020 refl refl, tt)) refl, tt),
        ),
      ),
      (
        of _ refl refl (
          in_second DW_AT_name int refl refl refl byte_texts.1 tt,
          (in_second DW_AT_signature (values.Block DW_FORM_block1 (0xaa ∷ 0xbb ∷ [])) refl refl refl (in_block1 refl (omega arith), (omega arith, (omega arith, tt))) tt, tt),
        ),
        (
          of _ refl refl (
            in_second DW_AT_type (to 0 1) refl refl refl base tt,
            (in_second DW_AT_data_member_location (values.Number DW_FORM_udata 300) refl refl refl (in_udata refl (omega arith)) tt, tt),
          ),
          (
            of _ refl refl (
              in_second DW_AT_location (values.Locations (location 0x1000 0x1020 (stretch (0x70 ∷ 0x7f ∷ [])) ∷ [])) refl refl refl
                  (All-from_recursion (IsLocation 4 second.nodes) (location 0x1000 0x1020 (stretch (0x70 ∷ 0x7f ∷ [])) ∷ []) (
                    is_location second.nodes 0x1000 0x1020 (stretch (0x70 ∷ 0x7f ∷ [])) refl refl (is_stretch second.nodes (0x70 ∷ 0x7f ∷ []) register) refl,
                    tt,
                  )) refl,
              tt,
            ),
            tt,
          ),
        ),
      ),
    )

-- the parent of a node that stands where another does, and where that one's stands
parent_at : (nodes : List Node) (k : ℕ) (n node : Node) → Some n ≡ Some node → (p steps : ℕ) → n.parent ≡ Some p → ltb k p ≡ false → IsUp nodes steps k p → IsPreorderParent nodes k node.parent
parent_at nodes k n node e p steps parent earlier up =
    let same : n.parent ≡ node.parent = ap (λ (x : Node). x.parent) (same_Some n node e) in
    record { number = p; is = sym same ∙ parent; earlier = ltb-false _ _ earlier; steps = steps; up = up }

first_preorder : (k : ℕ) (node : Node) → slice_get (drop 1 first.nodes) k ≡ Some node → IsPreorderParent first.nodes k node.parent
unfolding attr entry root u int to span location stretch converted row rows lines first second cie graph
first_preorder zero node e = parent_at first.nodes 0 _ node e 0 0 refl refl refl
first_preorder (suc zero) node e = parent_at first.nodes 1 _ node e 0 1 refl refl (_, 0, refl, refl, refl)
first_preorder (suc (suc zero)) node e = parent_at first.nodes 2 _ node e 2 0 refl refl refl
first_preorder (suc (suc (suc zero))) node e = parent_at first.nodes 3 _ node e 2 1 refl refl (_, 2, refl, refl, refl)
first_preorder (suc (suc (suc (suc zero)))) node e = parent_at first.nodes 4 _ node e 4 0 refl refl refl
first_preorder (suc (suc (suc (suc (suc zero))))) node e = parent_at first.nodes 5 _ node e 0 3 refl refl (_, 4, refl, refl, (_, 2, refl, refl, (_, 0, refl, refl, refl)))
first_preorder (suc (suc (suc (suc (suc (suc k)))))) node e = absurd cc

second_preorder : (k : ℕ) (node : Node) → slice_get (drop 1 second.nodes) k ≡ Some node → IsPreorderParent second.nodes k node.parent
unfolding attr entry root u int to span location stretch converted row rows lines first second cie graph
second_preorder zero node e = parent_at second.nodes 0 _ node e 0 0 refl refl refl
second_preorder (suc zero) node e = parent_at second.nodes 1 _ node e 1 0 refl refl refl
second_preorder (suc (suc zero)) node e = parent_at second.nodes 2 _ node e 0 2 refl refl (_, 1, refl, refl, (_, 0, refl, refl, refl))
second_preorder (suc (suc (suc k))) node e = absurd cc

is_row : (r : Row) → ltb r.address (2 ^ 64) ≡ true → ltb r.file (2 ^ 64) ≡ true → ltb r.line (2 ^ 32) ≡ true → ltb r.column (2 ^ 64) ≡ true → ltb r.discriminator (2 ^ 64) ≡ true → ltb r.isa (2 ^ 64) ≡ true → IsRow r
is_row r a b c d e f = record { address = ltb-true _ _ a; file = ltb-true _ _ b; line = ltb-true _ _ c; column = ltb-true _ _ d; discriminator = ltb-true _ _ e; isa = ltb-true _ _ f }

well_lines : IsLineTable 4 lines
unfolding lines rows row
well_lines = record {
  dirs = All-from_recursion (IsPath 4) lines.dirs (record { some = λ four. omega arith; text = ((omega arith, omega arith), tt) }, tt);
  files = All-from_recursion (IsFile 4) lines.files (
    record {
      name = record { some = λ four. omega arith; text = ((omega arith, omega arith), ((omega arith, omega arith), ((omega arith, omega arith), tt))) };
      dir = omega arith;
      time = omega arith;
      size = omega arith;
    },
    tt,
  );
  digests = none_has (All-from_recursion (λ file. file.digest ≡ None) lines.files (refl, tt));
  sequences = All-from_recursion IsSequence lines.sequences (
    record {
      some = omega arith;
      rows = All-from_recursion IsRow rows (is_row _ refl refl refl refl refl refl, (is_row _ refl refl refl refl refl refl, (is_row _ refl refl refl refl refl refl, (is_row _ refl refl refl refl refl refl, tt))));
      order = (omega arith, (omega arith, (omega arith, (omega arith, omega arith))));
      end = omega arith;
    },
    tt,
  );
}

content_bytes : (factor : ℕ) → factor < 256 → AreBytes (cie factor)
unfolding cie
content_bytes factor lt = (omega arith, (omega arith, (omega arith, (omega arith, (omega arith, (lt, (omega arith, (omega arith, tt))))))))

well_frames : All IsFrame graph.frames
unfolding graph
well_frames = All-from_recursion IsFrame graph.frames (
  record { cie = content_bytes 0x78 (omega arith); address = omega arith; length = omega arith; code = (omega arith, (omega arith, (omega arith, (omega arith, tt)))) },
  (
    record { cie = content_bytes 0x7c (omega arith); address = omega arith; length = omega arith; code = tt },
    (record { cie = content_bytes 0x78 (omega arith); address = omega arith; length = omega arith; code = tt }, tt),
  ),
)

well : IsWell graph
unfolding attr entry root u int to span location stretch converted row rows lines first second cie graph
well = record {
  units = All-from_recursion (IsWellUnit (IsTarget graph)) graph.units (
    record {
      version = inl refl;
      root = root (attr DW_AT_name u ∷ attr DW_AT_stmt_list values.Lines ∷ []);
      below = drop 1 first.nodes;
      nodes = refl;
      is_root = record { parent = refl; tag = refl; whole = refl; ends = without_ranges refl refl; stmt_list = refl; lines = refl };
      preorder = first_preorder;
      no_lines = All-from_recursion (λ node. has_lines node ≡ false) (drop 1 first.nodes) (refl, (refl, (refl, (refl, (refl, (refl, tt))))));
      each = first_nodes;
      lines = well_lines;
      ranges = All-from_recursion IsSpan [] tt;
    },
    (
      record {
        version = inl refl;
        root = root (attr DW_AT_name u ∷ attr DW_AT_low_pc (values.Address 0) ∷ attr DW_AT_ranges (values.Ranges (span 0x1000 0x1020 ∷ [])) ∷ []);
        below = drop 1 second.nodes;
        nodes = refl;
        is_root = record { parent = refl; tag = refl; whole = refl; ends = with_ranges (attr DW_AT_name u ∷ []) refl refl; stmt_list = refl; lines = refl };
        preorder = second_preorder;
        no_lines = All-from_recursion (λ node. has_lines node ≡ false) (drop 1 second.nodes) (refl, (refl, (refl, tt)));
        each = second_nodes;
        lines = tt;
        ranges = All-from_recursion IsSpan (span 0x1000 0x1020 ∷ []) (is_span 0x1000 0x1020 refl refl, tt);
      },
      tt,
    ),
  );
  frames = well_frames;
}
