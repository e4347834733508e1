use Rattle.line_read.specs.Header.{line_at}
use Rattle.line_read.proofs.Whole.{has_table, table_whole}
use Rattle.line_read.proofs.laws.operations_fill_the_program.Goals as goal

pub returns-clause-program : goal.returns-clause-program
returns-clause-program c = λ image relocs sections version offset program header dirs files t. table_whole image relocs sections version (line_at sections.line offset) program header dirs files t

pub returns-clause-table : goal.returns-clause-table
returns-clause-table c = λ image relocs sections version offset lines e. has_table image relocs sections version (line_at sections.line offset) lines e
