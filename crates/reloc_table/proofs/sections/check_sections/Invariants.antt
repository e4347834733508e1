use Rattle.reloc_table.proofs.Trying.{Passed}
use Rattle.reloc_table.proofs.sections.check_sections.Given as goal

abbrev pub invariant-loop-index : goal.invariant-loop-index
invariant-loop-index l = Passed l.compressed l.bytes l.sections l.seen l.index
