use Rattle.std.proofs.Common.{arith, sym}
use Rattle.dwarf_types.specs.Columns.{CellWithin}
use Rattle.dwarf_types.proofs.Ends.{raw_row_read}
use Rattle.dwarf_types.proofs.Heads.{head_read}
use Rattle.dwarf_types.proofs.builder.Builder.get.Goals as goal

pub cells_in-cells-requires : goal.cells_in-cells-requires
cells_in-cells-requires c =
    rw c.deref.ensures.value (head_read (CellWithin c.self.inside.sides) _ _ c.self.inside.open_from c.args.i c.index.result.now c.self.invariant.raw.flat (omega arith) c.index.ensures)

pub cells_in-ends-requires : goal.cells_in-ends-requires
cells_in-ends-requires c =
    rw (c.deref-2.ensures.value, c.self.invariant.raw.beside) (head_read (CellWithin c.self.inside.sides) _ _ c.self.inside.open_from c.args.i c.index.result.now c.self.invariant.raw.flat (omega arith) c.index.ensures)

pub returns : goal.returns
returns c =
    let read = raw_row_read c.self.inside.sides c.self.inside.heads.items c.self.inside.cells.items c.self.inside.ends.items c.args.i c.index.result.now (omega arith) c.index.ensures in
    rw (← c.self.view_is, c.new-2.ensures, c.new.ensures, c.cells_in-cells.ensures, c.cells_in-ends.ensures, c.deref.ensures.value, c.deref-2.ensures.value) (sym read)
