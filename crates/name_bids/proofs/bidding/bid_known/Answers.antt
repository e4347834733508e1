use Rattle.std.proofs.Common.{◌≡◌, ◌∙◌, ◌+◌, ℕ, arith, length, subst, sym}
use Rattle.std.proofs.lemmas.List.{length_push}
use Rattle.std.proofs.lemmas.Option.{slice_get-get_or}
use Rattle.name_bids.specs.Ahead.{IsBetween}
use Rattle.name_bids.specs.Bids.{HasBid}
use Rattle.name_bids.specs.Noting.{IsPlacedAt}
use Rattle.name_bids.specs.Sharing.{seat_view}
use Rattle.name_bids.proofs.NotedCells.{cells_more, placed_on}
use Rattle.name_bids.proofs.SeenAhead.{are_equal_on, are_known, between_more}
use Rattle.name_bids.proofs.bidding.bid_known.Goals as goal

pub invariant_of-book : goal.invariant_of-book
invariant_of-book c = record { known = are_known c.args.names.now c.args.pool.now.cells (seat_view c.args.seat.now).notes c.args.first c.args.known.now c.requires.known }

pub bid_name-placing-requires-clause-known : goal.bid_name-placing-requires-clause-known
bid_name-placing-requires-clause-known c = c.loop-i.invariant.known.each c.loop-i.i _ (slice_get-get_or c.args.known.now c.loop-i.i 0 (omega arith))

pub loop-i-preserved : goal.loop-i-preserved
loop-i-preserved c =
    let names = c.args.names.now in
    let cells = c.args.pool.now.cells in
    let old = seat_view c.args.seat.now in
    let mid = seat_view c.loop-i.seat in
    let new = seat_view c.bid_name-placing.new.seat in
    let so_far = c.loop-i.invariant in
    let bid = c.bid_name-placing.ensures.bid in
    let from : ℕ = c.args.first + length c.args.cells.now.items in
    let x : ℕ = c.args.first + c.loop-i.i in
    let behind : x + 1 ≡ c.args.first + (c.loop-i.i + 1) = omega arith in
    record {
      belongs = c.bid_name-placing.ensures.belongs;
      share = c.bid_name-placing.ensures.share ∙ so_far.share;
      within = omega arith;
      behind = omega (arith, so_far.behind);
      bid = subst (λ (to : ℕ). HasBid names cells old new (IsBetween from to)) behind (between_more names cells old mid new from x (omega (arith, so_far.behind)) so_far.bid bid);
      long = rw c.push_reserved.ensures.items (omega (arith, so_far.long, length_push c.loop-i.cells.items c.noted.result));
      capacity = c.push_reserved.ensures.capacity ∙ so_far.capacity;
      cells = rw c.push_reserved.ensures.items (cells_more (length names) (IsPlacedAt names cells mid.notes) (IsPlacedAt names cells new.notes) c.args.first c.loop-i.cells.items x c.noted.result
          (λ y cell placed. placed_on names cells mid.notes new.notes bid.notes y cell placed)
          (omega (arith, so_far.long)) (omega (arith, c.requires.known.within)) (subst (IsPlacedAt names cells new.notes x) (sym c.noted.ensures) c.bid_name-placing.ensures.placed) so_far.cells);
      known = are_equal_on names cells mid.notes new.notes c.args.first c.args.known.now bid.notes so_far.known;
    }
