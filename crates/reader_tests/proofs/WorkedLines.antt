-- Line tables (DWARF 4 and 5, section 6.2): what they mean, or the first fault.
use Rattle.std.proofs.Common.{◌≡◌, ℕ, Bool, true, false, List, [], ◌∷◌, Some, None, Result, Ok, Err, refl}
use Rattle.std.specs.Prelude.{codes}
use Rattle.ds_base.specs.declared.fault.Fault.{Fault}
use Rattle.ds_base.specs.declared.fault.Kind.{Kind}
use Rattle.ds_base.specs.declared.fault.Kind.TheVariants as kinds
use Rattle.ds_base.specs.declared.fault.Part.TheVariants as parts
use Rattle.ds_base.specs.Reading.{bytes_at, leb_at, number_at, placed_text_at, sleb_at, text_at, text_of, uleb_at}
use Rattle.dwarf_types.specs.declared.address.Addr.TheVariants as addrs
use Rattle.dwarf_types.specs.declared.lines.RawLines.{RawLines}
use Rattle.dwarf_types.specs.declared.lines.RawRow.{RawRow}
use Rattle.reloc_table.specs.Address.{address_of}
use Rattle.line_read.specs.Codes.{extended_of, standard_of}
use Rattle.line_read.specs.Entries.{block_at, dir_entry_at, file_entry_at, form_number_at, form_text_at, format_at, item_at, pair_at, passed_at}
use Rattle.line_read.specs.Formats.{content_of, form_of}
use Rattle.line_read.specs.Header.{fields_at, operations_at, program_at, sizes_at, table_at, version_at}
use Rattle.line_read.specs.Names.{dir_at, file_at, file_of}
use Rattle.line_read.specs.Operation.{body_at, defined_at, extended_at, filled_at, low_at, op_at, operands_at, part_at, standard_at, ulebs_at}
use Rattle.line_read.specs.Program.{lines_from, lines_of, program_of}
use Rattle.line_read.specs.Registers.{changed}
use Rattle.line_read.specs.Tables.{dirs_at, files_at}
use Rattle.reader_tests.specs.declared.bytes.TheConstants.{COMPILED, TABLE_5}
use Rattle.reader_tests.proofs.Object.{image, sections, two}

-- what a header computes with, and what a whole table does
heading : Unit {0}
unfolding lines_from table_at version_at sizes_at program_at operations_at fields_at dirs_at files_at dir_at file_at file_of dir_entry_at file_entry_at format_at pair_at item_at passed_at block_at form_text_at form_number_at form_of content_of bytes_at number_at text_at text_of placed_text_at uleb_at sleb_at leb_at
heading = tt

reading : Unit {0}
unfolding heading program_of op_at low_at standard_at standard_of extended_at extended_of body_at filled_at operands_at defined_at part_at ulebs_at changed address_of
reading = tt

-- the table at the start of the section, in a unit of a version
abbrev table : ℕ → List ℕ → Result RawLines Fault
table version bytes = lines_of image (two 0x28 0x57) (sections bytes) version 0

-- ---- tables

-- a row as llvm-dwarfdump prints it: address, line, column, and whether it has the flags is_stmt and prologue_end
abbrev pub row : ℕ → ℕ → ℕ → Bool → Bool → RawRow
row at line column is_stmt prologue_end = record {
  at = addrs.Placed at;
  row = record { address = 0; file = 1; line = line; column = column; discriminator = 0; isa = 0; is_stmt = is_stmt; basic_block = false; prologue_end = prologue_end; epilogue_begin = false };
}

abbrev pub printed : RawLines
printed = record {
  dirs = [];
  files = record { name = codes "m.c"; dir = 0; time = 0; size = 0; digest = None } ∷ [];
  sequences =
      record {
        rows =
            row 0 4 0 true false
            ∷ row 0x0e 5 15 true true
            ∷ row 0x11 6 23 true false
            ∷ row 0x13 6 5 false false
            ∷ row 0x15 0 5 false false
            ∷ row 0x20 7 25 true false
            ∷ row 0x28 6 29 true false
            ∷ row 0x2f 6 23 false false
            ∷ row 0x3a 6 5 false false
            ∷ row 0x3c 8 5 true false ∷ [];
        end = Some (addrs.Placed 0x4e);
      }
      ∷ record {
        rows =
            row 0x50 12 0 true false
            ∷ row 0x70 7 25 true true
            ∷ row 0x78 6 29 true false
            ∷ row 0x7f 6 23 false false
            ∷ row 0x89 6 5 false false
            ∷ row 0x8b 13 5 true false ∷ [];
        end = Some (addrs.Placed 0x99);
      } ∷ [];
}

a_compiled_table : table 4 COMPILED ≡ Ok printed
unfolding reading
a_compiled_table = refl

two_files : table 5 TABLE_5 ≡ Ok (record {
  dirs = codes "/src" ∷ [];
  files = record { name = codes "a.c"; dir = 0; time = 0; size = 0; digest = None } ∷ record { name = codes "a.c"; dir = 0; time = 0; size = 0; digest = None } ∷ [];
  sequences = [];
})
unfolding reading
two_files = refl

-- ---- first faults

abbrev fault : Kind → ℕ → Fault
fault kind place = record { kind = kind; section = parts.Line; place = place }

a_table_that_passes_the_section : table 4 (3 ∷ 0 ∷ 0 ∷ 0 ∷ 4 ∷ 0 ∷ []) ≡ Err (fault kinds.BadLineHeader 0)
unfolding heading
a_table_that_passes_the_section = refl

version_5_in_a_unit_of_version_4 : table 4 (2 ∷ 0 ∷ 0 ∷ 0 ∷ 5 ∷ 0 ∷ []) ≡ Err (fault kinds.LineVersion 4)
unfolding heading
version_5_in_a_unit_of_version_4 = refl

two_operations_an_instruction : table 4 (8 ∷ 0 ∷ 0 ∷ 0 ∷ 4 ∷ 0 ∷ 0 ∷ 0 ∷ 0 ∷ 0 ∷ 1 ∷ 2 ∷ []) ≡ Err (fault kinds.VliwLine 0)
unfolding heading
two_operations_an_instruction = refl

no_operand_count : table 4 (0x0c ∷ 0 ∷ 0 ∷ 0 ∷ 4 ∷ 0 ∷ 0 ∷ 0 ∷ 0 ∷ 0 ∷ 1 ∷ 1 ∷ 1 ∷ 0xfb ∷ 0x0e ∷ 4 ∷ []) ≡ Err (fault kinds.Truncated 16)
unfolding heading
no_operand_count = refl

-- of version 2, without names
a_number_that_is_too_wide : table 4 (
    0x1a ∷ 0 ∷ 0 ∷ 0 ∷ 2 ∷ 0 ∷ 9 ∷ 0 ∷ 0 ∷ 0 ∷ 1 ∷ 1 ∷ 0xff ∷ 4 ∷ 3 ∷ 0 ∷ 1 ∷ 0 ∷ 0
    ∷ 2 ∷ 0xff ∷ 0xff ∷ 0xff ∷ 0xff ∷ 0xff ∷ 0xff ∷ 0xff ∷ 0xff ∷ 0xff ∷ 2 ∷ []
    ) ≡ Err (fault kinds.LebTooWide 20)
unfolding reading
a_number_that_is_too_wide = refl

-- of version 2, without names
an_extended_operation_of_no_length : table 4 (
    0x10 ∷ 0 ∷ 0 ∷ 0 ∷ 2 ∷ 0 ∷ 7 ∷ 0 ∷ 0 ∷ 0 ∷ 1 ∷ 1 ∷ 0xff ∷ 4 ∷ 1 ∷ 0 ∷ 0
    ∷ 1 ∷ 0 ∷ 0 ∷ []
    ) ≡ Err (fault kinds.BadLineOp 18)
unfolding reading
an_extended_operation_of_no_length = refl

-- of version 2, without names: 18 rows at a number, one at 5 of the object, and one at 4
an_address_below_the_one_before_it : table 4 (
    0x39 ∷ 0 ∷ 0 ∷ 0 ∷ 2 ∷ 0 ∷ 9 ∷ 0 ∷ 0 ∷ 0 ∷ 1 ∷ 1 ∷ 0xff ∷ 4 ∷ 3 ∷ 0 ∷ 1 ∷ 0 ∷ 0
    ∷ 1 ∷ 1 ∷ 1 ∷ 1 ∷ 1 ∷ 1 ∷ 1 ∷ 1 ∷ 1 ∷ 1 ∷ 1 ∷ 1 ∷ 1 ∷ 1 ∷ 1 ∷ 1 ∷ 1 ∷ 1
    ∷ 0 ∷ 9 ∷ 2 ∷ 5 ∷ 0 ∷ 0 ∷ 0 ∷ 0 ∷ 0 ∷ 0 ∷ 0 ∷ 1
    ∷ 2 ∷ 0xff ∷ 0xff ∷ 0xff ∷ 0xff ∷ 0xff ∷ 0xff ∷ 0xff ∷ 0xff ∷ 0xff ∷ 1 ∷ 1 ∷ []
    ) ≡ Err (fault kinds.LineBackwards 60)
unfolding reading
an_address_below_the_one_before_it = refl

version_6 : table 5 (2 ∷ 0 ∷ 0 ∷ 0 ∷ 6 ∷ 0 ∷ []) ≡ Err (fault kinds.LineVersion 4)
unfolding heading
version_6 = refl

addresses_of_4_bytes : table 5 (4 ∷ 0 ∷ 0 ∷ 0 ∷ 5 ∷ 0 ∷ 4 ∷ 0 ∷ []) ≡ Err (fault kinds.BadLineHeader 0)
unfolding heading
addresses_of_4_bytes = refl

a_path_in_the_form_of_a_number : table 5 (
    0x11 ∷ 0 ∷ 0 ∷ 0 ∷ 5 ∷ 0 ∷ 8 ∷ 0 ∷ 9 ∷ 0 ∷ 0 ∷ 0 ∷ 1 ∷ 1 ∷ 1 ∷ 0xfb ∷ 0x0e ∷ 1
    ∷ 1 ∷ 1 ∷ 0x0b ∷ []
    ) ≡ Err (fault kinds.BadEntryFormat 0)
unfolding heading
a_path_in_the_form_of_a_number = refl

a_directory_that_begins_behind_the_texts : table 5 (
    0x16 ∷ 0 ∷ 0 ∷ 0 ∷ 5 ∷ 0 ∷ 8 ∷ 0 ∷ 0x0e ∷ 0 ∷ 0 ∷ 0 ∷ 1 ∷ 1 ∷ 1 ∷ 0xfb ∷ 0x0e ∷ 1
    ∷ 1 ∷ 1 ∷ 0x1f ∷ 1 ∷ 9 ∷ 0 ∷ 0 ∷ 0 ∷ []
    ) ≡ Err (fault kinds.BadOffset 22)
unfolding heading
a_directory_that_begins_behind_the_texts = refl

-- contents of entries of version 5 (DWARF 5, section 7.22, table 7.27): one that isn't known (0x2001, LLVM's) is passed over; of two paths, times and directories the first counts; a time that is a block counts as 0
contents_that_repeat : table 5 (
    0x34 ∷ 0 ∷ 0 ∷ 0 ∷ 5 ∷ 0 ∷ 8 ∷ 0 ∷ 0x2c ∷ 0 ∷ 0 ∷ 0 ∷ 1 ∷ 1 ∷ 1 ∷ 0xfb ∷ 0x0e ∷ 1
    ∷ 1 ∷ 1 ∷ 0x08 ∷ 1 ∷ 0x64 ∷ 0
    ∷ 7 ∷ 0x81 ∷ 0x40 ∷ 0x05 ∷ 1 ∷ 0x08 ∷ 1 ∷ 0x08 ∷ 3 ∷ 0x09 ∷ 3 ∷ 0x06 ∷ 2 ∷ 0x0b ∷ 2 ∷ 0x0f
    ∷ 1 ∷ 0xaa ∷ 0xbb ∷ 0x61 ∷ 0 ∷ 0x62 ∷ 0 ∷ 2 ∷ 0xcc ∷ 0xdd ∷ 0x11 ∷ 0x22 ∷ 0x33 ∷ 0x44 ∷ 3 ∷ 4 ∷ []
    ) ≡ Ok (record { dirs = codes "d" ∷ []; files = record { name = codes "a"; dir = 3; time = 0; size = 0; digest = None } ∷ []; sequences = [] })
unfolding reading
contents_that_repeat = refl

-- a time has no form of one byte
a_time_in_one_byte : table 5 (
    0x18 ∷ 0 ∷ 0 ∷ 0 ∷ 5 ∷ 0 ∷ 8 ∷ 0 ∷ 0x10 ∷ 0 ∷ 0 ∷ 0 ∷ 1 ∷ 1 ∷ 1 ∷ 0xfb ∷ 0x0e ∷ 1
    ∷ 1 ∷ 1 ∷ 0x08 ∷ 1 ∷ 0x64 ∷ 0
    ∷ 1 ∷ 3 ∷ 0x0b ∷ 0 ∷ []
    ) ≡ Err (fault kinds.BadEntryFormat 0)
unfolding heading
a_time_in_one_byte = refl
