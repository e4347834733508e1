-- A line table as bytes, of version 4 (DWARF 4, section 6.2.4) or of version 5 (DWARF 5, sections 6.2.4 and 6.2.4.1).
use Rattle.std.specs.Prelude.{ℕ, ◌+◌, ◌==◌, ◌&&◌, not, Bool, List, [], ◌∷◌, ◌++◌, length, is_some, if◌then◌else◌}
use Rattle.std.specs.Option.{option_map_or, unwrap_or}
use Rattle.std.specs.List.{flat_map, list_all}
use Rattle.byteorder.specs.Endian.{little_bytes}
use Rattle.ds_base.specs.DwarfNumbers.{DW_FORM_data16, DW_FORM_line_strp, DW_FORM_udata, DW_LNCT_MD5, DW_LNCT_directory_index, DW_LNCT_path, DW_LNCT_size, DW_LNCT_timestamp}
use Rattle.ds_base.specs.Leb.{uleb}
use Rattle.ds_base.specs.Texts.{ended}
use Rattle.dwarf_types.specs.declared.graph.OutUnit.{OutUnit}
use Rattle.dwarf_types.specs.declared.lines.FileName.{FileName}
use Rattle.dwarf_types.specs.declared.lines.OutLines.{OutLines}
use Rattle.dwarf_types.specs.LineProgram.{line_range, opcode_base, sequence_bytes}

-- how many operands each standard operation has, from DW_LNS_copy on
abbrev pub standard_opcode_lengths : List ℕ
standard_opcode_lengths = 0 ∷ 1 ∷ 1 ∷ 1 ∷ 1 ∷ 0 ∷ 0 ∷ 0 ∷ 1 ∷ 0 ∷ 0 ∷ 1 ∷ []

-- ---- the tables of version 4

-- a path, the index of its directory, when it was changed, its size
abbrev pub file_bytes : FileName → List ℕ
file_bytes file = ended file.name ++ (uleb file.dir ++ (uleb file.time ++ uleb file.size))

-- include_directories, ended by an empty text, and file_names, ended by one too
abbrev pub tables_bytes : OutLines → List ℕ
tables_bytes lines = flat_map ended lines.dirs ++ (0 ∷ (flat_map file_bytes lines.files ++ (0 ∷ [])))

-- ---- those of version 5, by the place of each text in the section of such texts

-- a content type and its form
abbrev pub format : ℕ → ℕ → List ℕ
format content form = uleb content ++ uleb form

-- a directory is its path
abbrev pub directory_format : List ℕ
directory_format = 1 ∷ format DW_LNCT_path DW_FORM_line_strp

abbrev pub directory_entry : (List ℕ → ℕ) → List ℕ → List ℕ
directory_entry text dir = little_bytes 4 (text dir)

-- digests are written where there is a file and each has one
abbrev pub have_digests : List FileName → Bool
have_digests files = not (length files == 0) && list_all (λ file. is_some file.digest) files

-- a file is its path, the index of its directory, when it was changed, its size, and its digest
abbrev pub digest_format : Bool → List ℕ
digest_format digests = if digests then format DW_LNCT_MD5 DW_FORM_data16 else []

abbrev pub file_format : Bool → List ℕ
file_format digests =
    (if digests then 5 else 4) ∷ (format DW_LNCT_path DW_FORM_line_strp
    ++ (format DW_LNCT_directory_index DW_FORM_udata ++ (format DW_LNCT_timestamp DW_FORM_udata
    ++ (format DW_LNCT_size DW_FORM_udata ++ digest_format digests))))

abbrev pub digest_bytes : Bool → FileName → List ℕ
digest_bytes digests file = if digests then unwrap_or file.digest [] else []

abbrev pub file_entry : (List ℕ → ℕ) → Bool → FileName → List ℕ
file_entry text digests file = little_bytes 4 (text file.name) ++ (uleb file.dir ++ (uleb file.time ++ (uleb file.size ++ digest_bytes digests file)))

-- directory_entry_format, directories_count, directories
abbrev pub directories_bytes : (List ℕ → ℕ) → List (List ℕ) → List ℕ
directories_bytes text dirs = directory_format ++ (uleb (length dirs) ++ flat_map (directory_entry text) dirs)

-- file_name_entry_format, file_names_count, file_names
abbrev pub files_bytes : (List ℕ → ℕ) → List FileName → List ℕ
files_bytes text files = file_format (have_digests files) ++ (uleb (length files) ++ flat_map (file_entry text (have_digests files)) files)

abbrev pub entries_bytes : (List ℕ → ℕ) → OutLines → List ℕ
entries_bytes text lines = directories_bytes text lines.dirs ++ files_bytes text lines.files

-- ---- the whole table, by its version

abbrev pub names_bytes : ℕ → (List ℕ → ℕ) → OutLines → List ℕ
names_bytes version text lines = if version == 5 then entries_bytes text lines else tables_bytes lines

-- minimum_instruction_length, maximum_operations_per_instruction, default_is_stmt, line_base (-5), line_range, opcode_base, and the directories and files
abbrev pub fields_bytes : ℕ → (List ℕ → ℕ) → OutLines → List ℕ
fields_bytes version text lines = 1 ∷ 1 ∷ 1 ∷ 0xfb ∷ line_range ∷ opcode_base ∷ (standard_opcode_lengths ++ names_bytes version text lines)

abbrev pub program_bytes : OutLines → List ℕ
program_bytes lines = flat_map sequence_bytes lines.sequences

-- the version, and in version 5 address_size and segment_selector_size
abbrev pub version_bytes : ℕ → List ℕ
version_bytes version = if version == 5 then little_bytes 2 5 ++ (8 ∷ 0 ∷ []) else little_bytes 2 4

-- header_length counts the bytes behind it up to the program, unit_length all behind it: the version, header_length itself, and what follows
abbrev pub line_table_bytes : ℕ → (List ℕ → ℕ) → OutLines → List ℕ
line_table_bytes version text lines =
    little_bytes 4 (length (version_bytes version) + 4 + length (fields_bytes version text lines) + length (program_bytes lines))
    ++ (version_bytes version ++ (little_bytes 4 (length (fields_bytes version text lines)) ++ (fields_bytes version text lines ++ program_bytes lines)))

-- that of a unit, if it has one
abbrev pub lines_bytes : (List ℕ → ℕ) → OutUnit → List ℕ
lines_bytes text unit = option_map_or (line_table_bytes unit.version text) unit.lines []
