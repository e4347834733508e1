-- A written line table of version 4 is read again, whatever follows it.
use Rattle.std.proofs.Common.{◌≡◌, ℕ, ◌+◌, ◌-◌, ◌<◌, Bool, true, false, negsuc, List, [], ◌∷◌, ◌++◌, length, take, Ok, inl, refl, sym, ap, subst, ◌∙◌, append_assoc, arith, length-append}
use Rattle.std.specs.Prelude.{nat_lt, nat_le, if◌then◌else◌}
use Rattle.std.specs.List.{flat_map}
use Rattle.std.proofs.lemmas.Bool.{le-ltb}
use Rattle.std.proofs.lemmas.List.{drop_at, take_all}
use Rattle.byteorder.specs.Endian.{little_bytes}
use Rattle.ds_base.specs.DwarfNumbers.{LENGTH_RESERVED}
use Rattle.ds_base.specs.Spot.{Spot, after}
use Rattle.ds_base.specs.Texts.{ended}
use Rattle.dwarf_types.specs.declared.lines.OutLines.{OutLines}
use Rattle.dwarf_types.specs.LineTable.{fields_bytes, file_bytes, line_table_bytes, program_bytes, standard_opcode_lengths, tables_bytes}
use Rattle.dwarf_types.specs.WellLines.{IsLineTable}
use Rattle.dwarf_types.specs.SectionBytes.{SectionBytes}
use Rattle.macho_read.specs.declared.image.Image.{Image}
use Rattle.reloc_table.specs.declared.relocation.Relocs.{Relocs}
use Rattle.line_read.specs.Header.{line_at, table_at, last_version, version_at, sizes_at, program_at}
use Rattle.line_read.specs.Operation.{op_at}
use Rattle.line_read.specs.Tables.{dirs_at, files_at}
use Rattle.line_read.specs.Program.{ops_at, program_of, lines_from}
use Rattle.line_read.proofs.Programs.{program_is}
use Rattle.line_laws.specs.Again.{read_again}
use Rattle.line_laws.proofs.Items.{At, at_same, passed, narrowed, number_again}
use Rattle.line_laws.proofs.Headers.{fields_again}
use Rattle.line_laws.proofs.Tables.{dirs_again, files_again}
use Rattle.line_laws.proofs.Rows.{program_again}

-- behind some bytes of the section
pub stands_behind : (front left : List ℕ) → At (line_at (front ++ left) (length front)) left
stands_behind front left =
    let len = length-append front left in
    record {
      left_is = ap (take (length (front ++ left) - length front)) (drop_at front left (length front) refl) ∙ take_all (length (front ++ left) - length front) left (omega (arith, len));
      end_is = len;
    }

-- what unit_length counts
abbrev body_of : (List ℕ → ℕ) → OutLines → List ℕ
body_of text lines = little_bytes 2 4 ++ (little_bytes 4 (length (fields_bytes 4 text lines)) ++ (fields_bytes 4 text lines ++ program_bytes lines))

table_parts : (text : List ℕ → ℕ) (lines : OutLines) → line_table_bytes 4 text lines ≡ little_bytes 4 (length (body_of text lines)) ++ body_of text lines
table_parts text lines =
    let len : 6 + length (fields_bytes 4 text lines) + length (program_bytes lines) ≡ length (body_of text lines) = omega (arith, length-append (fields_bytes 4 text lines) (program_bytes lines)) in
    ap (λ (n : ℕ). little_bytes 4 n ++ body_of text lines) len

-- the two tables, and what follows them
tables_then : (lines : OutLines) (more : List ℕ) → tables_bytes lines ++ more ≡ flat_map ended lines.dirs ++ (0 ∷ (flat_map file_bytes lines.files ++ (0 ∷ more)))
tables_then lines more =
    append_assoc (flat_map ended lines.dirs) (0 ∷ (flat_map file_bytes lines.files ++ (0 ∷ []))) more
    ∙ ap (λ (xs : List ℕ). flat_map ended lines.dirs ++ (0 ∷ xs)) (append_assoc (flat_map file_bytes lines.files) (0 ∷ []) more)

module _ (image : Image) (relocs : Relocs) (none : relocs.list ≡ []) (text : List ℕ → ℕ) (lines : OutLines) (sound : IsLineTable 4 lines) where
  -- the program
  rows_again : (s : Spot) → At s (program_bytes lines) →
      program_of
      (record { version = 4; minimum_instruction_length = 1; default_is_stmt = true; line_base = negsuc 4; line_range = 14; opcode_base = 13; standard_opcode_lengths = standard_opcode_lengths })
      lines.dirs lines.files
      (ops_at
      (op_at (record { version = 4; minimum_instruction_length = 1; default_is_stmt = true; line_base = negsuc 4; line_range = 14; opcode_base = 13; standard_opcode_lengths = standard_opcode_lengths }) image relocs)
      (s.end - s.place) s)
      ≡ Ok (read_again lines)
  rows_again s h =
      sym (program_is
      (op_at (record { version = 4; minimum_instruction_length = 1; default_is_stmt = true; line_base = negsuc 4; line_range = 14; opcode_base = 13; standard_opcode_lengths = standard_opcode_lengths }) image relocs)
      (record { version = 4; minimum_instruction_length = 1; default_is_stmt = true; line_base = negsuc 4; line_range = 14; opcode_base = 13; standard_opcode_lengths = standard_opcode_lengths })
      lines.dirs lines.files (s.end - s.place) s)
      ∙ program_again 4 image relocs none lines.dirs lines.files lines.sequences s sound.sequences h

  -- units of every version have tables of version 4
  four_stands : (unit : ℕ) → nat_lt (last_version unit) 4 ≡ false
  four_stands unit = by (nat_lt unit 5)
    where
      by : (b : Bool) → nat_lt (if b then 4 else 5) 4 ≡ false
      by true = refl
      by false = refl

  pub table_again : (sections : SectionBytes) (unit : ℕ) (first : Spot) (more : List ℕ) → length (line_table_bytes 4 text lines) < LENGTH_RESERVED + 4 → At first (line_table_bytes 4 text lines ++ more) → lines_from image relocs sections unit first ≡ Ok (read_again lines)
  unfolding lines_from table_at version_at sizes_at program_at dirs_at files_at
  table_again sections unit first more small h =
      let body = body_of text lines in
      let fields = fields_bytes 4 text lines in
      let program = program_bytes lines in
      let tables = tables_bytes lines in
      let dirs = flat_map ended lines.dirs in
      let files = flat_map file_bytes lines.files in
      let len : length (line_table_bytes 4 text lines) ≡ 4 + length body = omega (arith, ap length (table_parts text lines)) in
      let few : length body < 0xfffffff0 = omega (arith, small, len) in
      let fields_len : length fields ≡ 18 + (length dirs + 1) + (length files + 1) = omega (arith, length-append dirs (0 ∷ (files ++ (0 ∷ []))), length-append files (0 ∷ [])) in
      let body_len : length body ≡ 6 + length fields + length program = omega (arith, length-append fields program) in
      let h0 : At first (little_bytes 4 (length body) ++ (body ++ more)) =
      at_same first _ _ (ap (λ (xs : List ℕ). xs ++ more) (table_parts text lines) ∙ append_assoc (little_bytes 4 (length body)) body more) h in
      let h1 = passed first (little_bytes 4 (length body)) (body ++ more) h0 in
      let s0 : Spot = record first { place = first.place + 4; end = first.place + 4 + length body } in
      let h2 : At s0 body = narrowed (after first 4) body more h1 in
      let s1 = after s0 2 in
      let h3 = passed s0 (little_bytes 2 4) (little_bytes 4 (length fields) ++ (fields ++ program)) h2 in
      let s2 = after s1 4 in
      let h4 : At s2 (fields ++ program) = passed s1 (little_bytes 4 (length fields)) (fields ++ program) h3 in
      let behind = after s2 (length fields) in
      let h5 : At behind program = passed s2 fields program h4 in
      let s3 = after s2 18 in
      let h6 : At s3 (tables ++ program) = passed s2 (1 ∷ 1 ∷ 1 ∷ 0xfb ∷ 14 ∷ 13 ∷ standard_opcode_lengths) (tables ++ program) h4 in
      let h7 : At s3 (dirs ++ (0 ∷ (files ++ (0 ∷ program)))) = at_same s3 _ _ (tables_then lines program) h6 in
      let h8 = passed s3 (dirs ++ (0 ∷ [])) (files ++ (0 ∷ program)) (at_same s3 _ _ (sym (append_assoc dirs (0 ∷ []) (files ++ (0 ∷ program)))) h7) in
      let dirs_len : length (dirs ++ (0 ∷ [])) ≡ length dirs + 1 = length-append dirs (0 ∷ []) in
      let s4 = after s3 (length dirs + 1) in
      let h9 : At s4 (files ++ (0 ∷ program)) = subst (λ (n : ℕ). At (after s3 n) (files ++ (0 ∷ program))) dirs_len h8 in
      let reserved : nat_le LENGTH_RESERVED (length body) ≡ false = grind arith in
      rw (
        number_again 4 (length body) first (body ++ more) (omega (arith, few)) h0,
        reserved,
        le-ltb (first.end - (first.place + 4)) (length body) (omega (arith, h1.end_is, length-append body more)),
        number_again 2 4 s0 (little_bytes 4 (length fields) ++ (fields ++ program)) (omega arith) h2,
        four_stands unit,
        number_again 4 (length fields) s1 (fields ++ program) (omega (arith, few, body_len)) h3,
        le-ltb (s2.end - s2.place) (length fields) (omega (arith, h4.end_is, length-append fields program)),
        fields_again 4 first s2 (tables ++ program) (inl refl) h4,
        dirs_again first behind lines.dirs s3 (files ++ (0 ∷ program)) (s3.end - s3.place) sound.dirs h7 (omega (arith, fields_len)) (omega (arith, h7.end_is, length-append dirs (0 ∷ (files ++ (0 ∷ program))))),
        files_again first behind lines.files s4 program (s4.end - s4.place) sound.files sound.digests h9 (omega (arith, fields_len)) (omega (arith, h9.end_is, length-append files (0 ∷ program))),
      ) (rows_again behind h5)
