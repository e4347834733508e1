-- The length of a line table depends on no place of a text.
use Rattle.std.proofs.Common.{◌≡◌, ◌==◌, ℕ, ◌+◌, Bool, true, false, List, [], ◌++◌, length, flat_map, sum_by, if◌then◌else◌, Option, Some, None, refl, sym, ap, ◌∙◌, arith, length-append}
use mathlib.Core.Path.{fun_ext}
use Rattle.std.specs.Option.{option_map_or}
use Rattle.std.proofs.lemmas.List.Concat.{length-flat_map}
use Rattle.ds_base.specs.Leb.{uleb}
use Rattle.dwarf_types.specs.declared.graph.OutUnit.{OutUnit}
use Rattle.dwarf_types.specs.declared.lines.FileName.{FileName}
use Rattle.dwarf_types.specs.declared.lines.OutLines.{OutLines}
use Rattle.dwarf_types.specs.LineTable.{digest_bytes, directories_bytes, directory_entry, directory_format, entries_bytes, fields_bytes, file_entry, file_format, files_bytes, have_digests, line_table_bytes, lines_bytes, names_bytes, program_bytes, standard_opcode_lengths, tables_bytes, version_bytes}

same_all : {X : Type 0} (f g : X → List ℕ) → ((x : X) → length (f x) ≡ length (g x)) → (xs : List X) → length (flat_map f xs) ≡ length (flat_map g xs)
same_all {X} f g each xs = length-flat_map f xs ∙ ap (λ (len : X → ℕ). sum_by len xs) (fun_ext each) ∙ sym (length-flat_map g xs)

module _ (a b : List ℕ → ℕ) where
  same_directory : (dir : List ℕ) → length (directory_entry a dir) ≡ length (directory_entry b dir)
  same_directory dir = refl

  same_file : (digests : Bool) (file : FileName) → length (file_entry a digests file) ≡ length (file_entry b digests file)
  same_file digests file =
      let rest = uleb file.dir ++ (uleb file.time ++ (uleb file.size ++ digest_bytes digests file)) in
      omega (arith, length-append (directory_entry a file.name) rest, length-append (directory_entry b file.name) rest)

  same_entries : (lines : OutLines) → length (entries_bytes a lines) ≡ length (entries_bytes b lines)
  same_entries lines =
      let digests = have_digests lines.files in
      let dirs : (text : List ℕ → ℕ) → List ℕ = λ text. flat_map (directory_entry text) lines.dirs in
      let files : (text : List ℕ → ℕ) → List ℕ = λ text. flat_map (file_entry text digests) lines.files in
      let before : List ℕ = file_format digests in
      let len_of : (text : List ℕ → ℕ) → length (entries_bytes text lines) ≡ length directory_format + (length (uleb (length lines.dirs)) + length (dirs text)) + (length before + (length (uleb (length lines.files)) + length (files text))) =
      λ text.
      omega (
        arith,
        length-append (directories_bytes text lines.dirs) (files_bytes text lines.files),
        length-append directory_format (uleb (length lines.dirs) ++ dirs text),
        length-append (uleb (length lines.dirs)) (dirs text),
        length-append before (uleb (length lines.files) ++ files text),
        length-append (uleb (length lines.files)) (files text),
      ) in
      omega (arith, len_of a, len_of b, same_all (directory_entry a) (directory_entry b) same_directory lines.dirs, same_all (file_entry a digests) (file_entry b digests) (same_file digests) lines.files)

  same_names : (five : Bool) (lines : OutLines) → length (if five then entries_bytes a lines else tables_bytes lines) ≡ length (if five then entries_bytes b lines else tables_bytes lines)
  same_names true lines = same_entries lines
  same_names false lines = refl

  same_fields : (version : ℕ) (lines : OutLines) → length (fields_bytes version a lines) ≡ length (fields_bytes version b lines)
  same_fields version lines =
      omega (
        arith,
        length-append standard_opcode_lengths (names_bytes version a lines),
        length-append standard_opcode_lengths (names_bytes version b lines),
        same_names (version == 5) lines,
      )

  len_of : (version : ℕ) (text : List ℕ → ℕ) (lines : OutLines) → length (line_table_bytes version text lines) ≡ 4 + (length (version_bytes version) + (4 + (length (fields_bytes version text lines) + length (program_bytes lines))))
  len_of version text lines =
      let fields = fields_bytes version text lines in
      let program = program_bytes lines in
      omega (
        arith,
        length-append (version_bytes version) (directory_entry (λ text. length fields) [] ++ (fields ++ program)),
        length-append fields program,
      )

  same_table : (version : ℕ) (lines : OutLines) → length (line_table_bytes version a lines) ≡ length (line_table_bytes version b lines)
  same_table version lines = omega (arith, len_of version a lines, len_of version b lines, same_fields version lines)

  pub same_lines : (unit : OutUnit) → length (lines_bytes a unit) ≡ length (lines_bytes b unit)
  same_lines unit = by unit.lines
    where
      by : (lines : Option OutLines) → length (option_map_or (line_table_bytes unit.version a) lines []) ≡ length (option_map_or (line_table_bytes unit.version b) lines [])
      by None = refl
      by (Some lines) = same_table unit.version lines
