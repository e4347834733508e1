use Rattle.std.proofs.Common.{◌++◌, ◌∙◌, ℕ, List, length, ap, refl}
use Rattle.std.specs.List.{flat_map}
use Rattle.dwarf_types.specs.LineProgram.{sequence_bytes}
use Rattle.dwarf_types.specs.LineTable.{fields_bytes}
use Rattle.patches.specs.Filling.{Filling, filled}
use Rattle.line_write.specs.Named.{table_of}
use Rattle.line_write.proofs.Parts.{same_length}
use Rattle.line_write.proofs.lines.append_lines.Goals as goal

abbrev zeros : Filling
zeros = record { own = λ _. 0; outer = λ _. 0 }

abbrev nowhere : List ℕ → ℕ
nowhere text = 0

pub returns-clause-table : goal.returns-clause-table
returns-clause-table c =
    let version = c.args.version in
    let lines = c.args.lines.now in
    let program = c.as_slice.ensures ∙ c.in_ok-append_sequences.ensures ∙ ap (λ (front : List ℕ). front ++ flat_map sequence_bytes lines.sequences) c.new-program.ensures in
    record {
      bytes = λ f text tells.
          let fields = c.in_ok-append_fields.ensures.bytes f text tells ∙ ap (λ (front : List ℕ). front ++ fields_bytes version text lines) (c.new-fields.ensures f) in
          c.in_ok-append_parts.ensures.table f ∙ ap (λ (fs : List ℕ). filled c.args.out.now f ++ table_of version fs c.as_slice.result.now) fields
          ∙ ap (λ (ps : List ℕ). filled c.args.out.now f ++ table_of version (fields_bytes version text lines) ps) program;
      names = c.in_ok-append_fields.ensures.names;
    }

pub returns-clause-size : goal.returns-clause-size
returns-clause-size c = λ f.
    let version = c.args.version in
    let lines = c.args.lines.now in
    let program = c.as_slice.ensures ∙ c.in_ok-append_sequences.ensures ∙ ap (λ (front : List ℕ). front ++ flat_map sequence_bytes lines.sequences) c.new-program.ensures in
    let fields = c.in_ok-append_fields.ensures.bytes zeros nowhere (λ i t at. refl) ∙ ap (λ (front : List ℕ). front ++ fields_bytes version nowhere lines) (c.new-fields.ensures zeros) in
    let now = c.in_ok-append_parts.ensures.table f ∙ ap (λ (ps : List ℕ). filled c.args.out.now f ++ table_of version (filled c.append_fields.new.out f) ps) program in
    same_length version (filled c.args.out.now f) (filled c.append_fields.new.out f) (fields_bytes version nowhere lines) _ _ now (c.in_ok-append_parts.ensures.size f zeros ∙ ap length fields)
