use Rattle.std.proofs.Common.{◌≡◌, ◌-◌}
use Rattle.line_read.specs.Names.{file_at, listed_at, table_of}
use Rattle.line_read.proofs.names.read_files.Given as goal

abbrev pub invariant-loop : goal.invariant-loop
invariant-loop l = listed_at (file_at l.fn.header) (l.left - l.counter) l.files l.cursor ≡ table_of (file_at l.fn.header) l.fn.cursor
