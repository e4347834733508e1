use Rattle.std.proofs.Common.{◌≡◌, ◌-◌, [], length}
use Rattle.ds_base.specs.Reading.{items_at, number_at}
use Rattle.line_read.proofs.header.read_lengths.Given as goal

abbrev pub invariant-loop : goal.invariant-loop
invariant-loop l =
    record {
      so_far : items_at (number_at 1) (l.count - l.counter) l.lengths l.cursor ≡ items_at (number_at 1) l.fn.count [] l.fn.cursor;
      read : length l.lengths ≡ l.counter;
    }
