-- The units of objects that llvm-mc 14 wrote for x86_64-apple-macos10.12, as llvm-dwarfdump prints them, and the first fault of such units with another byte.
use Rattle.std.proofs.Common.{◌≡◌, ℕ, List, [], ◌∷◌, Option, Some, None, Result, Ok, Err, slice_set, refl}
use Rattle.ds_base.specs.DwarfNumbers.{DW_AT_addr_base, DW_AT_high_pc, DW_AT_language, DW_AT_location, DW_AT_low_pc, DW_AT_name, DW_AT_str_offsets_base, DW_AT_type, DW_FORM_addr, DW_FORM_addrx, DW_FORM_data2, DW_FORM_data4, DW_FORM_exprloc, DW_FORM_flag, DW_FORM_ref4, DW_FORM_ref_addr, DW_FORM_sec_offset, DW_FORM_strx1, DW_LANG_C99, DW_TAG_base_type, DW_TAG_compile_unit, DW_TAG_subprogram, DW_TAG_variable}
use Rattle.ds_base.specs.declared.fault.Fault.{Fault}
use Rattle.ds_base.specs.declared.fault.Kind.{Kind}
use Rattle.ds_base.specs.declared.fault.Kind.TheVariants as kinds
use Rattle.ds_base.specs.declared.fault.Part.{Part}
use Rattle.ds_base.specs.declared.fault.Part.TheVariants as parts
use Rattle.ds_base.specs.Reading.{bytes_at, leb_at, number_at, text_of, uleb_at}
use Rattle.dwarf_types.specs.SectionBytes.{SectionBytes}
use Rattle.dwarf_types.specs.declared.address.Addr.TheVariants.{Fixed}
use Rattle.dwarf_types.specs.declared.entry.InUnit.{InUnit}
use Rattle.dwarf_types.specs.declared.entry.RawAttr.{RawAttr}
use Rattle.dwarf_types.specs.declared.entry.RawEntry.{RawEntry}
use Rattle.dwarf_types.specs.declared.entry.RawUnits.{RawUnits}
use Rattle.dwarf_types.specs.declared.value.Value.{Value}
use Rattle.dwarf_types.specs.declared.value.Value.TheVariants as values
use Rattle.abbrev_read.specs.Reading.{declaration_at, declarations_at, field_at, fields_at as declared_fields_at, pair_at, short_at}
use Rattle.form_value.specs.Forms.{form_row}
use Rattle.form_value.specs.Reading.{block_at, class_at, coded_at, value_at}
use Rattle.index_tables.specs.Tables.{address_count, address_place, is_address_table, is_table, text_count, text_place}
use Rattle.unit_tree.specs.Attribute.{address_named, attr_at, attrs_at, meant_at, text_named, value_meant_at}
use Rattle.unit_tree.specs.Entry.{bases_at, child_at, children_at, entry_at, first_at, listed_at, root_at, tree_at}
use Rattle.unit_tree.specs.Header.{fields_4_at, fields_5_at, fields_at, header_at}
use Rattle.unit_tree.specs.Meaning.{meaning_of, table_of}
use Rattle.unit_tree.specs.Reference.{resolved}
use Rattle.unit_tree.specs.Unit.{unit_at, units_at, units_of, zeros_at}

-- sections without those to which indices lead
abbrev plain : List ℕ → List ℕ → SectionBytes
plain table info = record { info = info; abbrev_ = table; strings = []; str_offs = []; addr = []; line = []; line_str = []; ranges = []; rnglists = []; loc = []; loclists = []; aranges = []; frame = [] }

unit : ℕ → ℕ → ℕ → ℕ → InUnit
unit first count version language = record { first = first; count = count; version = version; language = language; lines = None }

entry : Option ℕ → ℕ → ℕ → ℕ → List RawAttr → RawEntry
entry parent u place tag attrs = record { parent = parent; unit = u; place = place; tag = tag; attrs = attrs }

attr : ℕ → ℕ → ℕ → Value → RawAttr
attr name form end value = record { name = name; form = form; end = end; value = value }

fault : Part → Kind → ℕ → Result RawUnits Fault
fault section kind place = Err (record { kind = kind; section = section; place = place })

-- what units compute with
reading : Unit {0}
unfolding unit entry attr fault units_of units_at unit_at header_at fields_at fields_4_at fields_5_at declarations_at declaration_at declared_fields_at field_at pair_at short_at first_at bases_at root_at entry_at tree_at children_at child_at listed_at attrs_at attr_at value_at form_row class_at coded_at block_at bytes_at number_at leb_at uleb_at value_meant_at meaning_of table_of meant_at resolved zeros_at
reading = tt

-- what the indices of version 5 compute with
indexing : Unit {0}
unfolding text_named address_named text_place text_count address_place address_count is_table is_address_table text_of
indexing = tt

-- ---- two units of version 4

-- A unit of the language C99, a base type, a function of 2 bytes and in it a variable, whose types are the base type by ref4 and ref_addr; and a unit with a flag as its language, which is none.
abbrev table : List ℕ
table =
    0x01 ∷ 0x11 ∷ 0x01 ∷ 0x13 ∷ 0x05 ∷ 0x11 ∷ 0x01 ∷ 0x00 ∷ 0x00 ∷ 0x02 ∷ 0x24 ∷ 0x00 ∷ 0x00 ∷ 0x00 ∷ 0x03 ∷ 0x2e
    ∷ 0x01 ∷ 0x11 ∷ 0x01 ∷ 0x12 ∷ 0x06 ∷ 0x49 ∷ 0x13 ∷ 0x00 ∷ 0x00 ∷ 0x04 ∷ 0x34 ∷ 0x00 ∷ 0x49 ∷ 0x10 ∷ 0x02 ∷ 0x18
    ∷ 0x00 ∷ 0x00 ∷ 0x05 ∷ 0x11 ∷ 0x00 ∷ 0x13 ∷ 0x0c ∷ 0x00 ∷ 0x00 ∷ 0x00 ∷ []

abbrev info : List ℕ
info =
    0x35 ∷ 0x00 ∷ 0x00 ∷ 0x00 ∷ 0x04 ∷ 0x00 ∷ 0x00 ∷ 0x00 ∷ 0x00 ∷ 0x00 ∷ 0x08 ∷ 0x01 ∷ 0x0c ∷ 0x00 ∷ 0x00 ∷ 0x00
    ∷ 0x00 ∷ 0x00 ∷ 0x00 ∷ 0x00 ∷ 0x00 ∷ 0x00 ∷ 0x02 ∷ 0x03 ∷ 0x00 ∷ 0x00 ∷ 0x00 ∷ 0x00 ∷ 0x00 ∷ 0x00 ∷ 0x00 ∷ 0x00
    ∷ 0x02 ∷ 0x00 ∷ 0x00 ∷ 0x00 ∷ 0x16 ∷ 0x00 ∷ 0x00 ∷ 0x00 ∷ 0x04 ∷ 0x16 ∷ 0x00 ∷ 0x00 ∷ 0x00 ∷ 0x09 ∷ 0x03 ∷ 0x02
    ∷ 0x00 ∷ 0x00 ∷ 0x00 ∷ 0x00 ∷ 0x00 ∷ 0x00 ∷ 0x00 ∷ 0x00 ∷ 0x00 ∷ 0x09 ∷ 0x00 ∷ 0x00 ∷ 0x00 ∷ 0x04 ∷ 0x00 ∷ 0x00
    ∷ 0x00 ∷ 0x00 ∷ 0x00 ∷ 0x08 ∷ 0x05 ∷ 0x01 ∷ []

-- an address of 0, before its relocation
abbrev zero_address : Value
zero_address = values.Address (record { at = Fixed 0; linked = None; linked_end = None })

two_units : units_of (plain table info) ≡ Ok (record {
  units = unit 0 4 4 DW_LANG_C99 ∷ unit 4 1 4 0 ∷ [];
  entries =
      entry None 0 0x0b DW_TAG_compile_unit (attr DW_AT_language DW_FORM_data2 0x0e (values.Number DW_FORM_data2 DW_LANG_C99) ∷ attr DW_AT_low_pc DW_FORM_addr 0x16 zero_address ∷ [])
      ∷ entry (Some 0) 0 0x16 DW_TAG_base_type []
      ∷ entry (Some 0) 0 0x17 DW_TAG_subprogram (
      attr DW_AT_low_pc DW_FORM_addr 0x20 zero_address ∷ attr DW_AT_high_pc DW_FORM_data4 0x24 (values.Number DW_FORM_data4 2) ∷ attr DW_AT_type DW_FORM_ref4 0x28 (values.Ref 0x16) ∷ [])
      ∷ entry (Some 2) 0 0x28 DW_TAG_variable (
      attr DW_AT_type DW_FORM_ref_addr 0x2d (values.Ref 0x16)
      ∷ attr DW_AT_location DW_FORM_exprloc 0x37 (values.Block DW_FORM_exprloc (0x03 ∷ 0x02 ∷ 0x00 ∷ 0x00 ∷ 0x00 ∷ 0x00 ∷ 0x00 ∷ 0x00 ∷ 0x00 ∷ [])) ∷ [])
      ∷ entry None 1 0x44 DW_TAG_compile_unit (attr DW_AT_language DW_FORM_flag 0x46 (values.Number DW_FORM_flag 1) ∷ []) ∷ [];
})
unfolding reading
two_units = refl

-- the units with another byte in their abbreviations
abbrev with_table : ℕ → ℕ → Result RawUnits Fault
with_table at byte = units_of (plain (slice_set table at byte) info)

-- a declaration without a tag, one with a form alone, a code for the second time, and one that is cut
refused_tables :
    (with_table 0x01 0 ≡ fault parts.Abbrev kinds.BadAbbrev 0)
    × (with_table 0x03 0 ≡ fault parts.Abbrev kinds.BadAbbrev 0)
    × (with_table 0x09 1 ≡ fault parts.Abbrev kinds.DuplicateCode 9)
    × (with_table 0x29 6 ≡ fault parts.Abbrev kinds.Truncated 0x2a)
unfolding reading
refused_tables = (refl, refl, refl, refl)

-- the units with another byte of their own
abbrev with_info : ℕ → ℕ → Result RawUnits Fault
with_info at byte = units_of (plain table (slice_set info at byte))

-- another version, another size of addresses, no table, a first entry of no unit, an unknown code, and a list that is open where the unit ends
refused_units :
    (with_info 0x04 3 ≡ fault parts.Info kinds.UnsupportedVersion 4)
    × (with_info 0x0a 4 ≡ fault parts.Info kinds.BadUnit 0)
    × (with_info 0x06 0x2a ≡ fault parts.Info kinds.BadOffset 6)
    × (with_info 0x0b 2 ≡ fault parts.Info kinds.BadUnit 0)
    × (with_info 0x44 9 ≡ fault parts.Info kinds.UnknownCode 0x44)
    × (with_info 0x00 0x34 ≡ fault parts.Info kinds.UnclosedSiblings 0x38)
unfolding reading
refused_units = (refl, refl, refl, refl, refl, refl)

-- ---- a unit of version 5

-- Its name `m.c` has the form strx1, and a function of 2 bytes begins at the first address of `__debug_addr`, by addrx.
abbrev table_5 : List ℕ
table_5 =
    0x01 ∷ 0x11 ∷ 0x01 ∷ 0x72 ∷ 0x17 ∷ 0x73 ∷ 0x17 ∷ 0x03 ∷ 0x25 ∷ 0x00 ∷ 0x00 ∷ 0x02 ∷ 0x2e ∷ 0x00 ∷ 0x11 ∷ 0x1b
    ∷ 0x12 ∷ 0x06 ∷ 0x00 ∷ 0x00 ∷ 0x00 ∷ []

abbrev info_5 : List ℕ
info_5 =
    0x19 ∷ 0x00 ∷ 0x00 ∷ 0x00 ∷ 0x05 ∷ 0x00 ∷ 0x01 ∷ 0x08 ∷ 0x00 ∷ 0x00 ∷ 0x00 ∷ 0x00 ∷ 0x01 ∷ 0x08 ∷ 0x00 ∷ 0x00
    ∷ 0x00 ∷ 0x08 ∷ 0x00 ∷ 0x00 ∷ 0x00 ∷ 0x00 ∷ 0x02 ∷ 0x00 ∷ 0x02 ∷ 0x00 ∷ 0x00 ∷ 0x00 ∷ 0x00 ∷ []

-- its sections
abbrev indexed : List ℕ → SectionBytes
indexed bytes = record (plain table_5 bytes) {
  strings = 0x6d ∷ 0x2e ∷ 0x63 ∷ 0x00 ∷ [];
  str_offs = 0x08 ∷ 0x00 ∷ 0x00 ∷ 0x00 ∷ 0x05 ∷ 0x00 ∷ 0x00 ∷ 0x00 ∷ 0x00 ∷ 0x00 ∷ 0x00 ∷ 0x00 ∷ [];
  addr = 0x0c ∷ 0x00 ∷ 0x00 ∷ 0x00 ∷ 0x05 ∷ 0x00 ∷ 0x08 ∷ 0x00 ∷ 0x00 ∷ 0x00 ∷ 0x00 ∷ 0x00 ∷ 0x00 ∷ 0x00 ∷ 0x00 ∷ 0x00 ∷ [];
}

unit_of_5 : units_of (indexed info_5) ≡ Ok (record {
  units = unit 0 2 5 0 ∷ [];
  entries =
      entry None 0 0x0c DW_TAG_compile_unit (
      attr DW_AT_str_offsets_base DW_FORM_sec_offset 0x11 (values.Offset 8) ∷ attr DW_AT_addr_base DW_FORM_sec_offset 0x15 (values.Offset 8)
      ∷ attr DW_AT_name DW_FORM_strx1 0x16 (values.Text (0x6d ∷ 0x2e ∷ 0x63 ∷ [])) ∷ [])
      ∷ entry (Some 0) 0 0x16 DW_TAG_subprogram (attr DW_AT_low_pc DW_FORM_addrx 0x18 (values.Offset 0) ∷ attr DW_AT_high_pc DW_FORM_data4 0x1c (values.Number DW_FORM_data4 2) ∷ []) ∷ [];
})
unfolding reading indexing
unit_of_5 = refl

-- the unit with another byte
abbrev with_info_5 : ℕ → ℕ → Result RawUnits Fault
with_info_5 at byte = units_of (indexed (slice_set info_5 at byte))

-- another type of units, and a text and an address one past those that there are
refused_units_of_5 :
    (with_info_5 0x06 2 ≡ fault parts.Info kinds.BadUnit 0)
    × (with_info_5 0x15 1 ≡ fault parts.Info kinds.BadIndex 0x15)
    × (with_info_5 0x17 1 ≡ fault parts.Info kinds.BadIndex 0x17)
unfolding reading indexing
refused_units_of_5 = (refl, refl, refl)
