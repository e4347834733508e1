use Rattle.std.proofs.Common.{◌≡◌, ◌-◌}
use Rattle.line_read.specs.Names.{dir_at, listed_at, table_of}
use Rattle.line_read.proofs.names.read_dirs.Given as goal

abbrev pub invariant-loop : goal.invariant-loop
invariant-loop l = listed_at (dir_at l.fn.header) (l.left - l.counter) l.dirs l.cursor ≡ table_of (dir_at l.fn.header) l.fn.cursor
