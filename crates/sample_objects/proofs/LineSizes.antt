-- How long the sequences of a line table are, and where their addresses stand.
use Rattle.std.proofs.Common.{◌≡◌, ◌≤◌, ◌<◌, ◌^◌, ◌+◌, ◌-◌, ℕ, List, [], ◌∷◌, ◌++◌, length, map, get_or, append-nil, arith, refl, sym, ap, ◌∙◌, length-append}
use Rattle.std.specs.List.{All, flat_map, sum_by}
use Rattle.std.specs.Option.{option_map_or}
use Rattle.std.proofs.lemmas.List.Elements.{All-map}
use Rattle.std.proofs.lemmas.List.Sums.{sum_by-cons}
use Rattle.byteorder.specs.Endian.{little_bytes}
use Rattle.ds_base.specs.DwarfNumbers.{DW_LNE_set_address}
use Rattle.ds_base.specs.Leb.{uleb}
use Rattle.ds_base.proofs.LebLengths.{length-uleb, some_digits}
use Rattle.dwarf_types.specs.declared.graph.OutUnit.{OutUnit}
use Rattle.dwarf_types.specs.declared.lines.OutLines.{OutLines}
use Rattle.dwarf_types.specs.declared.lines.Sequence.{Sequence}
use Rattle.dwarf_types.specs.LineProgram.{first_address, registers_at, rows_bytes, sequence_bytes, set_address}
use Rattle.dwarf_types.specs.Encode.{line_section}
use Rattle.dwarf_types.specs.Layout.{line_text_place}
use Rattle.dwarf_types.specs.LineTable.{fields_bytes, line_table_bytes, lines_bytes, program_bytes, version_bytes}
use Rattle.unit_draft.specs.Drafted.{lines_len}
use Rattle.layout.proofs.LineLengths.{same_lines}
use Rattle.reloc_table.specs.declared.relocation.Reloc.{Reloc}
use Rattle.sample_objects.specs.Lines.{places_by}
use Rattle.sample_objects.specs.ObjectFile.{counts_from_text, graph_of, line_relocs, operand_places, operands_of}

abbrev pub size_in_bytes : Sequence → ℕ
size_in_bytes s = length (sequence_bytes s)

-- ---- a table and its sequences

-- where its program stands
abbrev program_place : ℕ → OutLines → ℕ
program_place version lines = 8 + length (version_bytes version) + length (fields_bytes version (λ text. 0) lines)

table_len : (version : ℕ) (lines : OutLines) → length (line_table_bytes version (λ text. 0) lines) ≡ program_place version lines + length (program_bytes lines)
table_len version lines =
    let fields = fields_bytes version (λ text. 0) lines in
    omega (arith, length-append (version_bytes version) (little_bytes 4 (length fields) ++ (fields ++ program_bytes lines)), length-append fields (program_bytes lines))

-- a number of bytes that is known to be short by another name
pub below_limit : (n m : ℕ) → n ≡ m → m < 2 ^ 32 - 1 → n < 2 ^ 32
below_limit n m is few = omega (arith, is, few)

-- where the one table of a graph of one unit ends
pub line_end : (unit : OutUnit) → 0 + length (lines_bytes (line_text_place (graph_of unit)) unit) ≡ length (line_section (graph_of unit))
line_end unit =
    let bytes = lines_bytes (line_text_place (graph_of unit)) unit in
    let none : 0 + length bytes ≡ length bytes = omega arith in
    none ∙ sym (ap length (append-nil bytes))

-- and its size
pub one_table : (unit : OutUnit) → length (line_section (graph_of unit)) ≡ lines_len unit
one_table unit = ap length (append-nil (lines_bytes (line_text_place (graph_of unit)) unit)) ∙ same_lines (line_text_place (graph_of unit)) (λ text. 0) unit

pub sizes_sum : (sequences : List Sequence) → sum_by (λ n. n) (map size_in_bytes sequences) ≡ length (flat_map sequence_bytes sequences)
sizes_sum [] = refl
sizes_sum (s ∷ sequences) =
    omega (arith, sum_by-cons (λ (n : ℕ). n) (size_in_bytes s) (map size_in_bytes sequences), sizes_sum sequences, length-append (sequence_bytes s) (flat_map sequence_bytes sequences))

sequence_some : (s : Sequence) → 11 ≤ size_in_bytes s
sequence_some s =
    let body = DW_LNE_set_address ∷ little_bytes 8 (first_address s.rows) in
    omega (
      arith,
      length-append (set_address (first_address s.rows)) (rows_bytes (registers_at (first_address s.rows)) s.rows s.end),
      length-append (uleb (length body)) body,
      length-uleb (length body),
      some_digits (length body),
    )

pub sizes_some : (sequences : List Sequence) → All (λ n. 11 ≤ n) (map size_in_bytes sequences)
sizes_some sequences = All-map (λ (n : ℕ). 11 ≤ n) size_in_bytes sequences (λ k d lt. sequence_some (get_or sequences k d))

pub relocs_small : (unit : OutUnit) → All (λ r. r.symbol < 2 ^ 24) (line_relocs unit)
relocs_small unit = All-map (λ (r : Reloc). r.symbol < 2 ^ 24) counts_from_text (option_map_or (operands_of unit.version) unit.lines []) (λ k d lt. omega arith)

-- ---- where the addresses stand

places_are : (sequences : List Sequence) (at : ℕ) → operand_places at sequences ≡ places_by at (map size_in_bytes sequences)
places_are [] at = refl
places_are (s ∷ sequences) at = ap (λ (more : List ℕ). (at + 3) ∷ more) (places_are sequences (at + size_in_bytes s))

module _ (version : ℕ) (lines : OutLines) (sizes : List ℕ) (size program : ℕ) (told : sizes ≡ map size_in_bytes lines.sequences) (sum : program ≡ sum_by (λ n. n) sizes) (whole : size ≡ length (line_table_bytes version (λ text. 0) lines)) where
  program_is : program ≡ length (program_bytes lines)
  program_is = sum ∙ ap (sum_by (λ (n : ℕ). n)) told ∙ sizes_sum lines.sequences

  pub program_within : program ≤ size
  program_within = omega (arith, program_is, whole, table_len version lines)

  start_is : size - program ≡ program_place version lines
  start_is = omega (arith, program_is, whole, table_len version lines)

  pub sum_small : size < 2 ^ 32 → (size - program) + sum_by (λ n. n) sizes < 2 ^ 32
  sum_small small = omega (arith, sum, program_within, small)

  pub operands_are : map counts_from_text (places_by (size - program) sizes) ≡ map counts_from_text (operands_of version lines)
  operands_are =
      ap (λ (at : ℕ). map counts_from_text (places_by at sizes)) start_is
      ∙ ap (λ (l : List ℕ). map counts_from_text (places_by (program_place version lines) l)) told
      ∙ ap (map counts_from_text) (sym (places_are lines.sequences (program_place version lines)))
