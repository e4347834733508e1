use Rattle.std.proofs.Common.{◌<◌, length}
use Rattle.std.proofs.lemmas.List.{length-map}
use Rattle.dwarf_types.specs.Columns.{CellWithin, attr_of, entry_with}
use Rattle.dwarf_types.proofs.Heads.{head_read, row_read}
use Rattle.dwarf_types.proofs.entries.Entries.entry.Goals as goal

pub cells_in-requires : goal.cells_in-requires
cells_in-requires c =
    let lt : c.args.i < length c.self.inside.heads.items = rw (← c.self.view_is, length-map) at c.requires in
    rw c.deref.ensures.value (head_read (CellWithin c.self.inside.sides) _ _ _ c.args.i c.index.result.now c.self.invariant.flat lt c.index.ensures)

pub returns-clause-stands : goal.returns-clause-stands
returns-clause-stands c =
    let lt : c.args.i < length c.self.inside.heads.items = rw (← c.self.view_is, length-map) at c.requires in
    let read = row_read (CellWithin c.self.inside.sides) entry_with (attr_of c.self.inside.sides) c.self.inside.heads.items c.self.inside.cells.items c.args.i c.index.result.now lt c.index.ensures in
    rw (← c.self.view_is, c.new.ensures, c.cells_in.ensures, c.deref.ensures.value) read
