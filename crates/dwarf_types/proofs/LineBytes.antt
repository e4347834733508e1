-- The line tables of well units are bytes.
use Rattle.std.proofs.Common.{inl, inr, ◌⊎◌, ◌≡◌, ◌<◌, ◌+◌, ◌-◌, ◌==◌, ◌&&◌, ◌++◌, ◌∷◌, not, ℕ, pos, ◌-ℤ◌, Bool, true, false, List, [], Option, Some, None, length, nat_le, flat_map, refl, if◌then◌else◌, arith}
use Rattle.std.specs.Prelude.{IfSome}
use Rattle.std.specs.Option.{option_map_or, unwrap_or}
use Rattle.std.proofs.lemmas.Bool.{leb-true}
use Rattle.ds_base.specs.DwarfNumbers.{DW_FORM_data16, DW_FORM_line_strp, DW_FORM_udata, DW_LNCT_MD5, DW_LNCT_directory_index, DW_LNCT_path, DW_LNCT_size, DW_LNCT_timestamp, DW_LNE_end_sequence, DW_LNE_set_address, DW_LNE_set_discriminator, DW_LNS_advance_line, DW_LNS_advance_pc, DW_LNS_copy, DW_LNS_extended_op, DW_LNS_negate_stmt, DW_LNS_set_basic_block, DW_LNS_set_column, DW_LNS_set_epilogue_begin, DW_LNS_set_file, DW_LNS_set_isa, DW_LNS_set_prologue_end}
use Rattle.ds_base.specs.Texts.{ended}
use Rattle.dwarf_types.specs.declared.lines.FileName.{FileName}
use Rattle.dwarf_types.specs.declared.lines.OutLines.{OutLines}
use Rattle.dwarf_types.specs.declared.lines.Row.{Row}
use Rattle.dwarf_types.specs.declared.lines.Sequence.{Sequence}
use Rattle.dwarf_types.specs.Abbreviations.{same_flag}
use Rattle.dwarf_types.specs.LineProgram.{advance_line, advance_pc, append_row, extended, first_address, is_special, line_range, opcode_base, registers_after, registers_at, row_bytes, rows_bytes, sequence_bytes, set_address, set_discriminator, set_number, special_opcode, when}
use Rattle.dwarf_types.specs.LineTable.{directories_bytes, directory_entry, directory_format, fields_bytes, file_bytes, file_entry, file_format, files_bytes, format, have_digests, line_table_bytes, names_bytes, program_bytes, standard_opcode_lengths, tables_bytes, version_bytes}
use Rattle.dwarf_types.specs.WellLines.{HaveDigests, IsDigest, IsFile, IsLineTable, IsPath}
use Rattle.dwarf_types.specs.WellLines.HaveDigests.{each_has, none_has}
use Rattle.dwarf_types.proofs.Bytes.{Bytes, all_have, both, byte, either, ended_text, given, none, number, signed, unsigned}
use Rattle.dwarf_types.proofs.Bytes as lists

-- ---- operations

extended_is : {body : List ℕ} → Bytes body → Bytes (extended body)
extended_is {body = body} are = byte DW_LNS_extended_op (omega arith) (both (unsigned (length body)) are)

set_is : (code before n : ℕ) → code < 256 → Bytes (set_number code before n)
set_is code before n lt = either (n == before) none (byte code lt (unsigned n))

discriminator_is : (n : ℕ) → Bytes (set_discriminator n)
discriminator_is n = either (n == 0) none (extended_is (byte DW_LNE_set_discriminator (omega arith) (unsigned n)))

when_is : (wanted : Bool) (code : ℕ) → code < 256 → Bytes (when wanted code)
when_is wanted code lt = either wanted (byte code lt none) none

pc_is : (step : ℕ) → Bytes (advance_pc step)
pc_is step = either (step == 0) none (byte DW_LNS_advance_pc (omega arith) (unsigned step))

line_is : (before line : ℕ) → Bytes (advance_line before line)
line_is before line = either (line == before) none (byte DW_LNS_advance_line (omega arith) (signed (pos line -ℤ pos before)))

second : (a b : Bool) → (a && b) ≡ true → b ≡ true
second true b e = e
second false b e = absurd (let never : ⊥ = cc in never)

-- a special opcode is a byte
special_is : (before row : Row) → is_special before row ≡ true → special_opcode before row < 256
special_is before row e =
    let le = leb-true (special_opcode before row) 255 (second _ (nat_le (special_opcode before row) 255) e) in
    omega (arith, le)

append_is : (before row : Row) → Bytes (append_row before row)
append_is before row = by (is_special before row) refl
  where
    by : (b : Bool) → is_special before row ≡ b → Bytes (if b then special_opcode before row ∷ [] else advance_line before.line row.line ++ (advance_pc (row.address - before.address) ++ (DW_LNS_copy ∷ [])))
    by true e = byte (special_opcode before row) (special_is before row e) none
    by false e = both (line_is before.line row.line) (both (pc_is (row.address - before.address)) (byte DW_LNS_copy (omega arith) none))

row_is : (before row : Row) → Bytes (row_bytes before row)
row_is before row =
    both (set_is DW_LNS_set_file before.file row.file (omega arith))
    (both (set_is DW_LNS_set_column before.column row.column (omega arith))
    (both (discriminator_is row.discriminator)
    (both (set_is DW_LNS_set_isa before.isa row.isa (omega arith))
    (both (when_is (not (same_flag before.is_stmt row.is_stmt)) DW_LNS_negate_stmt (omega arith))
    (both (when_is row.basic_block DW_LNS_set_basic_block (omega arith))
    (both (when_is row.prologue_end DW_LNS_set_prologue_end (omega arith))
    (both (when_is row.epilogue_begin DW_LNS_set_epilogue_begin (omega arith))
    (append_is before row))))))))

rows_are : (before : Row) (rows : List Row) (end : ℕ) → Bytes (rows_bytes before rows end)
rows_are before [] end = both (pc_is (end - before.address)) (extended_is (byte DW_LNE_end_sequence (omega arith) none))
rows_are before (row ∷ rows) end = both (row_is before row) (rows_are (registers_after row) rows end)

address_is : (address : ℕ) → Bytes (set_address address)
address_is address = extended_is (byte DW_LNE_set_address (omega arith) (number 8 address))

sequence_is : (sequence : Sequence) → Bytes (sequence_bytes sequence)
sequence_is sequence = both (address_is (first_address sequence.rows)) (rows_are (registers_at (first_address sequence.rows)) sequence.rows sequence.end)

-- ---- the tables of version 4

file_is : (version : ℕ) (file : FileName) → IsFile version file → Bytes (file_bytes file)
file_is version file is = both (ended_text file.name is.name.text) (both (unsigned file.dir) (both (unsigned file.time) (unsigned file.size)))

tables_are : (version : ℕ) (lines : OutLines) → IsLineTable version lines → Bytes (tables_bytes lines)
tables_are version lines is =
    both (all_have (IsPath version) ended (λ dir path. ended_text dir path.text) lines.dirs is.dirs)
    (byte 0 (omega arith) (both (all_have (IsFile version) file_bytes (file_is version) lines.files is.files) (byte 0 (omega arith) none)))

-- ---- those of version 5

format_is : (content form : ℕ) → Bytes (format content form)
format_is content form = both (unsigned content) (unsigned form)

digest_by : (d : Option (List ℕ)) → (d ≡ None) ⊎ IsDigest d → Bytes (unwrap_or d [])
digest_by None is = none
digest_by (Some bytes) (inl differs) = absurd (let never : ⊥ = cc in never)
digest_by (Some bytes) (inr is) = given bytes is.1

file_entry_is : (text : List ℕ → ℕ) (digests : Bool) (file : FileName) → (file.digest ≡ None) ⊎ IsDigest file.digest → Bytes (file_entry text digests file)
file_entry_is text digests file is =
    both (number 4 (text file.name)) (both (unsigned file.dir) (both (unsigned file.time) (both (unsigned file.size) (either digests (digest_by file.digest is) none))))

all_entries_are : (text : List ℕ → ℕ) (version : ℕ) (digests : Bool) (files : List FileName) → HaveDigests version files → Bytes (flat_map (file_entry text digests) files)
all_entries_are text version digests files (none_has all) = all_have (λ file. file.digest ≡ None) (file_entry text digests) (λ file is. file_entry_is text digests file (inl is)) files all
all_entries_are text version digests files (each_has five all) = all_have (λ file. IsDigest file.digest) (file_entry text digests) (λ file is. file_entry_is text digests file (inr is)) files all

count_small : (b : Bool) → (if b then 5 else 4) < 256
count_small true = omega arith
count_small false = omega arith

file_format_is : (digests : Bool) → Bytes (file_format digests)
file_format_is digests =
    byte (if digests then 5 else 4) (count_small digests) (both (format_is DW_LNCT_path DW_FORM_line_strp) (both (format_is DW_LNCT_directory_index DW_FORM_udata) (both (format_is DW_LNCT_timestamp DW_FORM_udata)
    (both (format_is DW_LNCT_size DW_FORM_udata) (either digests (format_is DW_LNCT_MD5 DW_FORM_data16) none)))))

directory_format_is : Bytes directory_format
directory_format_is = byte 1 (omega arith) (format_is DW_LNCT_path DW_FORM_line_strp)

directories_are : (text : List ℕ → ℕ) (dirs : List (List ℕ)) → Bytes (directories_bytes text dirs)
directories_are text dirs = both directory_format_is (both (unsigned (length dirs)) (lists.each_has (directory_entry text) (λ dir. number 4 (text dir)) dirs))

files_are : (text : List ℕ → ℕ) (version : ℕ) (files : List FileName) → HaveDigests version files → Bytes (files_bytes text files)
files_are text version files have = both (file_format_is (have_digests files)) (both (unsigned (length files)) (all_entries_are text version (have_digests files) files have))

names_are : (version : ℕ) (text : List ℕ → ℕ) (lines : OutLines) → IsLineTable version lines → Bytes (names_bytes version text lines)
names_are version text lines is = either (version == 5) (both (directories_are text lines.dirs) (files_are text version lines.files is.digests)) (tables_are version lines is)

-- ---- the whole table

lengths_are : Bytes standard_opcode_lengths
lengths_are = given standard_opcode_lengths (omega arith, (omega arith, (omega arith, (omega arith, (omega arith, (omega arith, (omega arith, (omega arith, (omega arith, (omega arith, (omega arith, (omega arith, tt))))))))))))

fields_are : (version : ℕ) (text : List ℕ → ℕ) (lines : OutLines) → IsLineTable version lines → Bytes (fields_bytes version text lines)
fields_are version text lines is =
    byte 1 (omega arith) (byte 1 (omega arith) (byte 1 (omega arith) (byte 0xfb (omega arith) (byte line_range (omega arith) (byte opcode_base (omega arith) (both lengths_are (names_are version text lines is)))))))

version_is : (version : ℕ) → Bytes (version_bytes version)
version_is version = either (version == 5) (both (number 2 5) (byte 8 (omega arith) (byte 0 (omega arith) none))) (number 2 4)

line_table_is : (version : ℕ) (text : List ℕ → ℕ) (lines : OutLines) → IsLineTable version lines → Bytes (line_table_bytes version text lines)
line_table_is version text lines is =
    both (number 4 (length (version_bytes version) + 4 + length (fields_bytes version text lines) + length (program_bytes lines)))
    (both (version_is version) (both (number 4 (length (fields_bytes version text lines))) (both (fields_are version text lines is) (lists.each_has sequence_bytes sequence_is lines.sequences))))

pub lines_are : (version : ℕ) (text : List ℕ → ℕ) (lines : Option OutLines) → IfSome lines (IsLineTable version) → Bytes (option_map_or (line_table_bytes version text) lines [])
lines_are version text None is = none
lines_are version text (Some lines) is = line_table_is version text lines is
