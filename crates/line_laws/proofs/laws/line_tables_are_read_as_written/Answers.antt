use Rattle.std.proofs.Common.{◌++◌, length}
use Rattle.dwarf_types.specs.LineTable.{line_table_bytes}
use Rattle.dwarf_types.specs.SectionBytes.{SectionBytes}
use Rattle.line_read.specs.Header.{line_at}
use Rattle.line_laws.proofs.Whole.{stands_behind, table_again}
use Rattle.line_laws.proofs.laws.line_tables_are_read_as_written.Goals as goal

pub returns : goal.returns
returns c = λ lines text front more image relocs sections version sound small none.
    let written : SectionBytes = record sections { line = front ++ (line_table_bytes 4 text lines ++ more) } in
    table_again image relocs none text lines sound written version (line_at (front ++ (line_table_bytes 4 text lines ++ more)) (length front)) more small (stands_behind front (line_table_bytes 4 text lines ++ more))
