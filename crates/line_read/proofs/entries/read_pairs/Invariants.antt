use Rattle.std.proofs.Common.{◌≡◌, ◌-◌, []}
use Rattle.ds_base.specs.Reading.{items_at}
use Rattle.line_read.specs.Entries.{pair_at}
use Rattle.line_read.proofs.entries.read_pairs.Given as goal

abbrev pub invariant-loop : goal.invariant-loop
invariant-loop l = items_at (pair_at l.header) (l.count - l.counter) l.items l.cursor ≡ items_at (pair_at l.header) l.fn.count [] l.fn.cursor
