use Rattle.std.proofs.Common.{sym}
use Rattle.std.proofs.lemmas.Iterator.Adapters.{position_from-zero}
use Rattle.macho_read.specs.Kind.{is_dwarf_part, with_sections}
use Rattle.macho_read.proofs.kind.check_not_linked.Goals as goal

pub loop-k-init : goal.loop-k-init
loop-k-init c = sym (position_from-zero is_dwarf_part (with_sections c.args.segments.now c.args.sections.now))
