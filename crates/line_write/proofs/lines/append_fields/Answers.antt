use Rattle.std.proofs.Common.{[], ◌∷◌, ◌++◌}
use Rattle.dwarf_types.specs.LineProgram.{line_range, opcode_base}
use Rattle.dwarf_types.specs.LineTable.{names_bytes, standard_opcode_lengths}
use Rattle.line_write.specs.Named.{texts_in}
use Rattle.line_write.proofs.Naming.{named_behind}
use Rattle.line_write.proofs.lines.append_fields.Goals as goal

pub returns : goal.returns
returns c =
    let version = c.args.version in
    let lines = c.args.lines.now in
    let names = c.args.names.now in
    let after = c.append_names.new.names in
    named_behind c.args.out.now c.extend.new.self c.append_names.new.out names after (texts_in version lines) (λ text. standard_opcode_lengths ++ names_bytes version text lines)
    (1 ∷ 1 ∷ 1 ∷ 0xfb ∷ line_range ∷ opcode_base ∷ []) c.in_ok-extend.ensures.ok
    (named_behind c.extend.new.self c.extend-2.new.self c.append_names.new.out names after (texts_in version lines) (λ text. names_bytes version text lines) standard_opcode_lengths c.in_ok-extend-2.ensures.ok c.in_ok-append_names.ensures)
