-- A written line table of version 5 is read again, whatever follows it.
use Rattle.std.proofs.Common.{◌≡◌, ℕ, ◌+◌, ◌-◌, ◌<◌, ◌≤◌, true, false, negsuc, List, [], ◌∷◌, ◌++◌, length, Ok, inr, refl, sym, ap, ◌∙◌, append_assoc, arith, length-append}
use Rattle.std.specs.Prelude.{nat_le}
use Rattle.std.specs.List.{All, flat_map}
use Rattle.std.proofs.lemmas.Bool.{le-ltb}
use Rattle.byteorder.specs.Endian.{little_bytes}
use Rattle.ds_base.specs.DwarfNumbers.{LENGTH_RESERVED}
use Rattle.ds_base.specs.Leb.{uleb}
use Rattle.ds_base.specs.Spot.{Spot, after}
use Rattle.dwarf_types.specs.declared.lines.FileName.{FileName}
use Rattle.dwarf_types.specs.declared.lines.OutLines.{OutLines}
use Rattle.dwarf_types.specs.LineTable.{directories_bytes, directory_entry, directory_format, fields_bytes, file_entry, file_format, files_bytes, have_digests, line_table_bytes, program_bytes, standard_opcode_lengths, version_bytes}
use Rattle.dwarf_types.specs.WellLines.{IsLineTable}
use Rattle.dwarf_types.specs.SectionBytes.{SectionBytes}
use Rattle.macho_read.specs.declared.image.Image.{Image}
use Rattle.reloc_table.specs.declared.relocation.Relocs.{Relocs}
use Rattle.line_read.specs.Header.{table_at, version_at, sizes_at, program_at}
use Rattle.line_read.specs.Operation.{op_at}
use Rattle.line_read.specs.Tables.{dirs_at, files_at}
use Rattle.line_read.specs.Program.{ops_at, program_of, lines_from}
use Rattle.line_read.proofs.Programs.{program_is}
use Rattle.line_laws.specs.Again.{AreThere, read_again}
use Rattle.line_laws.proofs.Items.{At, at_same, passed, narrowed, byte_again, number_again}
use Rattle.line_laws.proofs.Entries.{IsNamed}
use Rattle.line_laws.proofs.EntryTables.{IsWritten, digests_told, dirs_again, files_again}
use Rattle.line_laws.proofs.Headers.{fields_again}
use Rattle.line_laws.proofs.Rows.{program_again}

-- what unit_length counts
abbrev body_of : (List ℕ → ℕ) → OutLines → List ℕ
body_of text lines = version_bytes 5 ++ (little_bytes 4 (length (fields_bytes 5 text lines)) ++ (fields_bytes 5 text lines ++ program_bytes lines))

table_parts : (text : List ℕ → ℕ) (lines : OutLines) → line_table_bytes 5 text lines ≡ little_bytes 4 (length (body_of text lines)) ++ body_of text lines
table_parts text lines =
    let len : 8 + length (fields_bytes 5 text lines) + length (program_bytes lines) ≡ length (body_of text lines) = omega (arith, length-append (fields_bytes 5 text lines) (program_bytes lines)) in
    ap (λ (n : ℕ). little_bytes 4 n ++ body_of text lines) len

-- ---- a table has no more entries than bytes

entries_few : {X : Type 0} (bytes_of : X → List ℕ) → ((x : X) → 0 < length (bytes_of x)) → (xs : List X) → length xs ≤ length (flat_map bytes_of xs)
entries_few bytes_of some [] = omega arith
entries_few bytes_of some (x ∷ xs) = omega (arith, some x, entries_few bytes_of some xs, length-append (bytes_of x) (flat_map bytes_of xs))

dirs_few : (text : List ℕ → ℕ) (dirs : List (List ℕ)) → length dirs ≤ length (directories_bytes text dirs)
dirs_few text dirs =
    omega (arith, entries_few (directory_entry text) (λ dir. omega arith) dirs, length-append directory_format (uleb (length dirs) ++ flat_map (directory_entry text) dirs), length-append (uleb (length dirs)) (flat_map (directory_entry text) dirs))

files_few : (text : List ℕ → ℕ) (files : List FileName) → length files ≤ length (files_bytes text files)
files_few text files =
    omega (
      arith,
      entries_few (file_entry text (have_digests files)) (λ file. omega arith) files,
      length-append (file_format (have_digests files)) (uleb (length files) ++ flat_map (file_entry text (have_digests files)) files),
      length-append (uleb (length files)) (flat_map (file_entry text (have_digests files)) files),
    )

module _ (image : Image) (relocs : Relocs) (none : relocs.list ≡ []) (text : List ℕ → ℕ) (lines : OutLines) (sound : IsLineTable 5 lines) (sections : SectionBytes) (there : AreThere sections.line_str text lines) where
  -- the program
  rows_again : (s : Spot) → At s (program_bytes lines) →
      program_of
      (record { version = 5; minimum_instruction_length = 1; default_is_stmt = true; line_base = negsuc 4; line_range = 14; opcode_base = 13; standard_opcode_lengths = standard_opcode_lengths })
      lines.dirs lines.files
      (ops_at
      (op_at (record { version = 5; minimum_instruction_length = 1; default_is_stmt = true; line_base = negsuc 4; line_range = 14; opcode_base = 13; standard_opcode_lengths = standard_opcode_lengths }) image relocs)
      (s.end - s.place) s)
      ≡ Ok (read_again lines)
  rows_again s h =
      sym (program_is
      (op_at (record { version = 5; minimum_instruction_length = 1; default_is_stmt = true; line_base = negsuc 4; line_range = 14; opcode_base = 13; standard_opcode_lengths = standard_opcode_lengths }) image relocs)
      (record { version = 5; minimum_instruction_length = 1; default_is_stmt = true; line_base = negsuc 4; line_range = 14; opcode_base = 13; standard_opcode_lengths = standard_opcode_lengths })
      lines.dirs lines.files (s.end - s.place) s)
      ∙ program_again 5 image relocs none lines.dirs lines.files lines.sequences s sound.sequences h

  dirs_named : (first program : Spot) → All (IsNamed first program sections text) lines.dirs
  dirs_named first program k d lt = record { sound = let path = sound.dirs k d lt in path.text; stands = there.dirs k d lt }

  files_written : (first program : Spot) → All (IsWritten first program sections text (have_digests lines.files)) lines.files
  files_written first program k d lt =
      let file = sound.files k d lt in
      let name = file.name in
      record { named = record { sound = name.text; stands = there.files k d lt }; dir = file.dir; time = file.time; size = file.size; digest = digests_told lines.files sound.digests k d lt }

  pub table_again : (first : Spot) (more : List ℕ) → length (line_table_bytes 5 text lines) < LENGTH_RESERVED + 4 → At first (line_table_bytes 5 text lines ++ more) → lines_from image relocs sections 5 first ≡ Ok (read_again lines)
  unfolding lines_from table_at version_at sizes_at program_at dirs_at files_at
  table_again first more small h =
      let body = body_of text lines in
      let fields = fields_bytes 5 text lines in
      let program = program_bytes lines in
      let dirs = directories_bytes text lines.dirs in
      let files = files_bytes text lines.files in
      let len : length (line_table_bytes 5 text lines) ≡ 4 + length body = omega (arith, ap length (table_parts text lines)) in
      let few : length body < 0xfffffff0 = omega (arith, small, len) in
      let fields_len : length fields ≡ 18 + length dirs + length files = omega (arith, length-append dirs files) in
      let body_len : length body ≡ 8 + length fields + length program = omega (arith, length-append fields program) in
      let h0 : At first (little_bytes 4 (length body) ++ (body ++ more)) =
      at_same first _ _ (ap (λ (xs : List ℕ). xs ++ more) (table_parts text lines) ∙ append_assoc (little_bytes 4 (length body)) body more) h in
      let h1 = passed first (little_bytes 4 (length body)) (body ++ more) h0 in
      let s0 : Spot = record first { place = first.place + 4; end = first.place + 4 + length body } in
      let behind_sizes = little_bytes 4 (length fields) ++ (fields ++ program) in
      let h2 : At s0 (little_bytes 2 5 ++ (8 ∷ 0 ∷ behind_sizes)) = narrowed (after first 4) body more h1 in
      let s1 = after s0 2 in
      let h3 : At s1 (8 ∷ 0 ∷ behind_sizes) = passed s0 (little_bytes 2 5) (8 ∷ 0 ∷ behind_sizes) h2 in
      let s2 = after s1 1 in
      let h4 : At s2 (0 ∷ behind_sizes) = passed s1 (8 ∷ []) (0 ∷ behind_sizes) h3 in
      let s3 = after s2 1 in
      let h5 : At s3 behind_sizes = passed s2 (0 ∷ []) behind_sizes h4 in
      let s4 = after s3 4 in
      let h6 : At s4 (fields ++ program) = passed s3 (little_bytes 4 (length fields)) (fields ++ program) h5 in
      let behind = after s4 (length fields) in
      let h7 : At behind program = passed s4 fields program h6 in
      let s5 = after s4 18 in
      let h8 : At s5 ((dirs ++ files) ++ program) = passed s4 (1 ∷ 1 ∷ 1 ∷ 0xfb ∷ 14 ∷ 13 ∷ standard_opcode_lengths) ((dirs ++ files) ++ program) h6 in
      let h9 : At s5 (dirs ++ (files ++ program)) = at_same s5 _ _ (append_assoc dirs files program) h8 in
      let s6 = after s5 (length dirs) in
      let h10 : At s6 (files ++ program) = passed s5 dirs (files ++ program) h9 in
      let reserved : nat_le LENGTH_RESERVED (length body) ≡ false = grind arith in
      rw (
        number_again 4 (length body) first (body ++ more) (omega (arith, few)) h0,
        reserved,
        le-ltb (first.end - (first.place + 4)) (length body) (omega (arith, h1.end_is, length-append body more)),
        number_again 2 5 s0 (8 ∷ 0 ∷ behind_sizes) (omega arith) h2,
        byte_again 8 s1 (0 ∷ behind_sizes) h3,
        byte_again 0 s2 behind_sizes h4,
        number_again 4 (length fields) s3 (fields ++ program) (omega (arith, few, body_len)) h5,
        le-ltb (s4.end - s4.place) (length fields) (omega (arith, h6.end_is, length-append fields program)),
        fields_again 5 first s4 ((dirs ++ files) ++ program) (inr refl) h6,
        dirs_again first behind sections text lines.dirs s5 (files ++ program) (dirs_named first behind) (omega (arith, few, body_len, fields_len, dirs_few text lines.dirs)) h9 (omega (arith, fields_len)),
        files_again first behind sections text lines.files s6 program (files_written first behind) (omega (arith, few, body_len, fields_len, files_few text lines.files)) h10 (omega (arith, fields_len)),
      ) (rows_again behind h7)
