use Rattle.reloc_table.proofs.Places.{apart_end}
use Rattle.reloc_table.proofs.table.check_apart.Goals as goal

pub returns : goal.returns
returns c = apart_end _ c.args.relocs.now c.loop-i.i _ c.loop-i.auto.i c.loop-i-test.false c.loop-i.invariant
