use Rattle.dwarf_types.proofs.Copying.{entries_copied, entries_still}
use Rattle.dwarf_types.proofs.entries.Entries.copy.Goals as goal

pub from_columns-requires : goal.from_columns-requires
from_columns-requires c =
    rw (c.in_ok-heads.ensures.items, c.in_ok-cells.ensures.items, c.deref.ensures.value, c.deref-2.ensures.value) (entries_still c.self.inside.sides c.in_ok-sides.sides c.self.inside.heads.items c.self.inside.cells.items c.in_ok-sides.ensures c.self.invariant)

pub returns : goal.returns
returns c =
    rw (c.from_columns.ensures, c.in_ok-heads.ensures.items, c.in_ok-cells.ensures.items, c.deref.ensures.value, c.deref-2.ensures.value, ← c.self.view_is) (entries_copied c.self.inside.sides c.in_ok-sides.sides c.self.inside.heads.items c.self.inside.cells.items c.in_ok-sides.ensures c.self.invariant)
