use Rattle.macho_write.proofs.OwnCommands.{segments_more}
use Rattle.macho_write.proofs.segments.append_segments.Goals as goal

pub loop-segment-preserved : goal.loop-segment-preserved
loop-segment-preserved c =
    segments_more c.args.placed c.args.segments.now c.loop-segment.left.now c.split_sections.result.0.now c.split_sections.result.1.now c.loop-segment.segment-index c.segment-item.result c.loop-segment-test.true c.segment-item.is
    c.split_sections.ensures.own c.split_sections.ensures.others _ _ _ c.in_ok-append_own_segment.ensures c.loop-segment.invariant
