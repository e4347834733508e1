use Rattle.std.proofs.Common.{arith}
use Rattle.dwarf_types.specs.Columns.{cell_count}
use Rattle.dwarf_types.proofs.Ends.{counted, raw_rows}
use Rattle.dwarf_types.proofs.entries.RawEntries.from_columns.Goals as goal

pub invariant_of-result : goal.invariant_of-result
invariant_of-result c =
    let flat = c.requires.entries.flat in
    let all = counted c.args.sides c.args.cells.items 0 c.args.heads.items (cell_count c.args.heads.items) flat.follow flat.few in
    rw c.from_columns.ensures (omega (arith, all, flat.few, c.requires.beside))

pub returns : goal.returns
returns c =
    let flat = c.requires.entries.flat in
    rw c.from_columns.ensures (raw_rows c.args.sides c.args.cells.items c.args.ends.items 0 c.args.heads.items (cell_count c.args.heads.items) flat.follow flat.few)
