use Rattle.std.proofs.Common.{◌≡◌, ◌-◌, []}
use Rattle.dwarf_types.specs.declared.abbrev.TheConstants.{MOST_FIELDS}
use Rattle.abbrev_read.specs.Reading.{fields_at}
use Rattle.abbrev_read.proofs.table.read_fields.Given as goal

abbrev pub invariant-loop : goal.invariant-loop
invariant-loop l = fields_at (MOST_FIELDS - l.counter) l.fields l.fn.first l.cursor ≡ fields_at 256 [] l.fn.first l.fn.cursor
