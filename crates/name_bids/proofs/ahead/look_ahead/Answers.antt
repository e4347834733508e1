use Rattle.std.proofs.Common.{◌∙◌, arith, length, subst, sym}
use Rattle.std.proofs.lemmas.List.{length_push}
use Rattle.name_bids.specs.Ahead.{IsAhead}
use Rattle.name_bids.specs.Sharing.{seat_view}
use Rattle.name_bids.proofs.NotedCells.{cells_more}
use Rattle.name_bids.proofs.SeenAhead.{ahead_on, found_ahead, looked_more}
use Rattle.name_bids.proofs.ahead.look_ahead.Goals as goal

pub loop-x-preserved : goal.loop-x-preserved
loop-x-preserved c =
    let names = c.args.names.now in
    let cells = c.args.pool.now.cells in
    let mid = seat_view c.loop-x.seat in
    let new = seat_view c.look_ahead.new.seat in
    let so_far = c.loop-x.invariant in
    let learns = c.look_ahead.ensures.learns in
    record {
      belongs = c.look_ahead.ensures.belongs;
      share = learns.share ∙ so_far.share;
      bid = looked_more names cells (seat_view c.args.seat.now) mid new so_far.bid learns c.look_ahead.ensures.puts;
      long = rw c.push_reserved.ensures.items (omega (arith, so_far.long, length_push c.loop-x.seen.items c.noted_name.result));
      capacity = c.push_reserved.ensures.capacity ∙ so_far.capacity;
      ahead = rw c.push_reserved.ensures.items (cells_more (length names) (IsAhead names cells mid.notes) (IsAhead names cells new.notes) c.args.from c.loop-x.seen.items c.loop-x.x c.noted_name.result
          (λ y name is. ahead_on names cells mid.notes new.notes learns.notes y name is)
          so_far.long (omega (arith, c.requires.range.1))
          (subst (IsAhead names cells new.notes c.loop-x.x) (sym c.noted_name.ensures) (found_ahead names cells new.notes c.args.pool.now.names c.loop-x.x c.look_ahead.result c.requires.book c.look_ahead.ensures.found))
          so_far.ahead);
    }
