use Rattle.std.proofs.Common.{◌∙◌}
use Rattle.dwarf_types.proofs.PlainCells.{any_address}
use Rattle.dwarf_types.proofs.entry_ref.EntryRef.has_address.Goals as goal

pub returns : goal.returns
returns c = rw (← c.self.view_is) (c.has_address.ensures ∙ any_address c.self.inside.sides.now c.self.inside.cells.now)
