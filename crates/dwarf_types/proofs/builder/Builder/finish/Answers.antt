use Rattle.dwarf_types.specs.Columns.{CellWithin}
use Rattle.dwarf_types.proofs.Heads.{flat_whole}
use Rattle.dwarf_types.proofs.builder.Builder.finish.Goals as goal

pub from_columns-requires-clause-entries : goal.from_columns-requires-clause-entries
from_columns-requires-clause-entries c =
    record {
      flat = flat_whole (CellWithin c.self.inside.sides) c.self.inside.heads.items c.self.inside.cells.items c.self.inside.open_from c.self.invariant.raw.flat;
      columns = c.self.invariant.columns;
    }
