use Rattle.std.proofs.Common.{◌∙◌}
use Rattle.dwarf_types.proofs.PlainCells.{plain_at}
use Rattle.dwarf_types.proofs.entry_ref.EntryRef.is_plain.Goals as goal

pub returns : goal.returns
returns c a is = c.is_plain.ensures ∙ plain_at c.self.inside.sides.now c.self.inside.cells.now c.args.j c.kind_at.result a c.kind_at.ensures (rw (← c.self.view_is) at is)
