use Rattle.std.proofs.Common.{◌≡◌, drop}
use Rattle.dwarf_types.specs.SectionBytes.{bytes_in}
use Rattle.line_read.specs.Entries.{parts_at, no_parts}
use Rattle.line_read.proofs.entries.read_parts.Given as goal

abbrev pub invariant-loop-item : goal.invariant-loop-item
invariant-loop-item l = parts_at l.header (bytes_in l.sections) (drop l.item-index l.format) l.parts l.cursor ≡ parts_at l.header (bytes_in l.sections) l.format no_parts l.fn.cursor
