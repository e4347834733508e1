use Rattle.std.proofs.Common.{◌∙◌, ◌+◌, arith, length}
use Rattle.std.proofs.lemmas.List.{length_push}
use Rattle.std.proofs.lemmas.Option.{slice_get-get_or}
use Rattle.name_bids.specs.Ahead.{IsAhead}
use Rattle.name_bids.proofs.NotedCells.{cells_more}
use Rattle.name_bids.proofs.ahead.leave_others.Goals as goal

pub loop-i-preserved : goal.loop-i-preserved
loop-i-preserved c =
    let names = c.args.names.now in
    let so_far = c.loop-i.invariant in
    record {
      long = rw c.push_reserved.ensures.items (omega (arith, so_far.long, length_push c.loop-i.likely.items c.likely_name.result));
      capacity = c.push_reserved.ensures.capacity ∙ so_far.capacity;
      ahead = λ cells notes seen. rw c.push_reserved.ensures.items (cells_more (length names) (IsAhead names cells notes) (IsAhead names cells notes) c.args.from c.loop-i.likely.items (c.args.from + c.loop-i.i) c.likely_name.result
          (λ y name is. is) (omega (arith, so_far.long)) (omega (arith, c.requires.within.0))
          (c.likely_name.ensures cells notes (seen.each c.loop-i.i _ (slice_get-get_or c.args.seen.now c.loop-i.i 0 (omega arith))))
          (so_far.ahead cells notes seen));
    }
