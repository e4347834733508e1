use Rattle.std.proofs.Common.{◌∙◌}
use Rattle.dwarf_types.proofs.PlainCells.{any_offset}
use Rattle.dwarf_types.proofs.entry_ref.EntryRef.has_offset.Goals as goal

pub returns : goal.returns
returns c = rw (← c.self.view_is) (c.has_offset.ensures ∙ any_offset c.self.inside.sides.now c.self.inside.cells.now)
