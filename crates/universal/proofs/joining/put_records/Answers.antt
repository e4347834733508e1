use Rattle.std.proofs.Common.{◌∙◌, arith}
use Rattle.universal.specs.declared.parts.Appended.{Appended}
use Rattle.universal.proofs.Pages.{page_near}
use Rattle.universal.proofs.Rooms.{record_put}
use Rattle.universal.proofs.joining.put_records.Goals as goal

pub loop-part-preserved : goal.loop-part-preserved
loop-part-preserved c =
    let d : Appended = record { cpu = 0; sub = 0; size = 0 } in
    let inv = c.loop-part.invariant in
    record {
      place = omega (arith, inv.place);
      small = omega (arith, inv.small, page_near c.loop-part.end, c.page_end-offset.ensures, c.part_end-end.ensures.near);
      size = c.put_record.auto.room ∙ inv.size;
      all = record_put c.args.parts.now c.loop-part.part-index d c.loop-part.room c.put_record.new.room _ c.loop-part.at c.loop-part.end c.page_end-offset.result c.part_end-end.result c.loop-part-test.true
          (omega (arith, inv.place, inv.size, c.requires.few, c.requires.fits, c.loop-part-test.true))
          c.page_end-offset.ensures c.part_end-end.ensures.is c.put_record.ensures inv.all;
    }
