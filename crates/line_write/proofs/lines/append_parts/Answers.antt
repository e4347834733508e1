use Rattle.std.proofs.Common.{◌+◌, length, refl, sym}
use Rattle.patches.specs.Filling.{filled}
use Rattle.line_write.proofs.Parts.{table_parts}
use Rattle.line_write.proofs.lines.append_parts.Goals as goal

pub returns-clause-table : goal.returns-clause-table
returns-clause-table c = λ f.
    let program = c.args.program.now in
    let len = c.version_len.result in
    let fields_len = c.len-header_length.result in
    table_parts c.args.version len fields_len (length program) (len + 4 + fields_len + length program) (filled c.args.out.now f) (filled c.append_length.new.out f) (filled c.append_version.new.out f)
    (filled c.append_length-2.new.out f) (filled c.append.new.self f) (filled c.extend.new.self f) (filled c.args.fields.now f) program (sym (c.len-header_length.ensures f)) c.version_len.ensures refl refl
    (c.in_ok-append_length.ensures f) (c.in_ok-append_version.ensures f) (c.in_ok-append_length-2.ensures f) (c.in_ok-append.ensures.ok f) (c.in_ok-extend.ensures.ok f)
