use Rattle.dwarf_types.proofs.PlainCells.{named_at}
use Rattle.dwarf_types.proofs.entry_ref.EntryRef.attr_name.Goals as goal

pub returns : goal.returns
returns c a is = named_at c.self.inside.sides.now c.self.inside.cells.now c.args.j c.name_at.result a c.name_at.ensures (rw (← c.self.view_is) at is)
