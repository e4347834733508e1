use Rattle.macho_write.proofs.OwnCommands.{sections_more}
use Rattle.macho_write.proofs.segments.append_sections.Goals as goal

pub loop-section-preserved : goal.loop-section-preserved
loop-section-preserved c =
    sections_more c.args.placed c.args.sections.now c.loop-section.section-index c.section-item.result c.loop-section-test.true c.section-item.is _ _ _ c.in_ok-append_own_section.ensures c.loop-section.invariant
