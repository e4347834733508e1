use Rattle.std.proofs.Common.{arith}
use Rattle.moved_parts.proofs.PartPlaces.{put_more}
use Rattle.moved_parts.proofs.lines.all_parts.Goals as goal

pub loop-index-preserved : goal.loop-index-preserved
loop-index-preserved c =
    record {
      parts = put_more c.args.sequences.now c.args.ranges.now c.loop-index.index _ _ (omega arith) c.in_ok-add_parts.ensures.parts c.loop-index.invariant.parts;
      sound = c.in_ok-add_parts.ensures.sound;
    }
