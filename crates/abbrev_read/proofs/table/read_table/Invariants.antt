use Rattle.std.proofs.Common.{◌≡◌, ◌-◌, ℕ}
use Rattle.abbrev_read.specs.Codes.{is_declared}
use Rattle.abbrev_read.specs.Reading.{declarations_at, table_at}
use Rattle.abbrev_read.specs.Run.{has_code}
use Rattle.abbrev_read.proofs.table.read_table.Given as goal

abbrev pub invariant-loop : goal.invariant-loop
invariant-loop l = (declarations_at (l.left - l.counter) l.table l.cursor ≡ table_at l.bytes l.offset) × ((code : ℕ) → has_code l.codes code ≡ is_declared code l.table)
