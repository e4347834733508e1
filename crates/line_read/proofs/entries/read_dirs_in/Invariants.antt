use Rattle.std.proofs.Common.{◌≡◌, ◌-◌, []}
use Rattle.ds_base.specs.Reading.{items_at}
use Rattle.dwarf_types.specs.SectionBytes.{bytes_in}
use Rattle.line_read.specs.Entries.{dir_entry_at}
use Rattle.line_read.proofs.entries.read_dirs_in.Given as goal

abbrev pub invariant-loop : goal.invariant-loop
invariant-loop l = items_at (dir_entry_at l.header (bytes_in l.sections) l.format) (l.count - l.counter) l.dirs l.cursor ≡ items_at (dir_entry_at l.header (bytes_in l.sections) l.format) l.count [] l.fn.cursor
