use Rattle.std.proofs.Common.{◌-◌, ◌+◌, ◌∙◌, ap, arith}
use Rattle.ds_base.specs.Reading.{items_at}
use Rattle.ds_base.proofs.Items.{items_more}
use Rattle.universal.specs.Records.{slice_at}
use Rattle.universal.proofs.records.read_records.Goals as goal

pub loop-preserved : goal.loop-preserved
loop-preserved c =
    let bytes = c.args.bytes.now in
    let inv = c.loop.invariant in
    record {
      place = omega (arith, inv.place);
      all = ap (λ slices. items_at (slice_at bytes) (c.args.count - (c.loop.counter + 1)) slices (c.loop.at + 20)) c.in_ok-push.ensures.ok
          ∙ items_more (slice_at bytes) c.args.count c.loop.counter c.loop.slices c.loop.at c.in_ok-slice.slice (c.loop.at + 20) _ (omega (arith, c.loop-test.true)) c.in_ok-slice.ensures inv.all;
    }
