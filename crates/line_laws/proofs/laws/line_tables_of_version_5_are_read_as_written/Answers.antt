use Rattle.std.proofs.Common.{◌++◌}
use Rattle.dwarf_types.specs.LineTable.{line_table_bytes}
use Rattle.line_laws.proofs.Whole.{stands_behind}
use Rattle.line_laws.proofs.WithEntries.{table_again}
use Rattle.line_laws.proofs.laws.line_tables_of_version_5_are_read_as_written.Goals as goal

pub returns : goal.returns
returns c lines text front more image relocs sections sound there small none =
    table_again image relocs none text lines sound (record sections { line = front ++ (line_table_bytes 5 text lines ++ more) }) there _ more small (stands_behind front (line_table_bytes 5 text lines ++ more))
