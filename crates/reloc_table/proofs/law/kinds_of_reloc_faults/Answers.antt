use Rattle.reloc_table.proofs.Refused.{relocs_kinds}
use Rattle.reloc_table.proofs.law.kinds_of_reloc_faults.Goals as goal

pub returns : goal.returns
returns c = relocs_kinds
