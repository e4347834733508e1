use Rattle.std.proofs.lemmas.Bool.{cases_lt}
use Rattle.std.proofs.Common.{inl, inr, ◌≡◌, ◌∙◌, ◌+◌, ◌≤◌, ℕ, refl, ap, arith, length, subst, sym}
use Rattle.name_bids.specs.declared.bidding.ObjectCells.{ObjectCells}
use Rattle.name_bids.specs.Ahead.{IsAhead, IsBetween, IsEqualAhead}
use Rattle.name_bids.specs.Bids.{HasBid}
use Rattle.name_bids.specs.Noting.{AreCellsFrom, IsPlacedAt}
use Rattle.name_bids.specs.Sharing.{seat_view}
use Rattle.name_bids.proofs.Claiming.{object_begun, object_done, object_whole}
use Rattle.name_bids.proofs.NotedCells.{cells_none}
use Rattle.name_bids.proofs.SeenAhead.{ahead_within, are_equal_on, are_known, are_placed_on, between_looked, object_further}
use Rattle.name_bids.proofs.bidding.bid_object.Goals as goal

pub loop-x-init : goal.loop-x-init
loop-x-init c =
    let names = c.args.names.now in
    let view = seat_view c.args.seat.now in
    let first : ℕ = c.first_of-first.result in
    let end : ℕ = c.first_of-end.result in
    let first_below : first ≤ end = elim (cases_lt end first) [
      | inl less ↦ absurd (omega (arith, c.first_of-first.ensures.before end less, c.first_of-end.ensures.behind end (omega arith) (omega (arith, less, c.first_of-first.ensures.within))))
      | inr least ↦ least
    ] in
    record {
      belongs = c.requires.belongs;
      share = refl;
      bid = object_begun names c.args.pool.now.cells c.args.object c.first_of-first.result c.first_of-end.result view c.first_of-first.ensures c.first_of-end.ensures;
      range = (omega arith, first_below, c.first_of-end.ensures.within);
      long = (rw c.in_ok-cells.ensures.items (omega arith), rw c.in_ok-known.ensures.items (omega arith));
      room = (c.in_ok-seen.ensures.capacity, c.in_ok-likely.ensures.capacity, c.in_ok-known.ensures.capacity, c.in_ok-cells.ensures.capacity);
      cells = rw c.in_ok-cells.ensures.items (cells_none (length names) (IsPlacedAt names c.args.pool.now.cells view.notes) c.first_of-first.result c.first_of-first.ensures.within);
      known = rw c.in_ok-known.ensures.items (cells_none (length names) (IsEqualAhead names c.args.pool.now.cells view.notes) c.first_of-first.result c.first_of-first.ensures.within);
    }

pub keep_equal-requires-clause-known : goal.keep_equal-requires-clause-known
keep_equal-requires-clause-known c = are_known c.args.names.now c.args.pool.now.cells (seat_view c.loop-x.seat).notes c.first_of-first.result c.loop-x.known.items c.loop-x.invariant.known

pub keep_equal-requires-clause-names : goal.keep_equal-requires-clause-names
keep_equal-requires-clause-names c =
    let names = c.args.names.now in
    let cells = c.args.pool.now.cells in
    let notes = (seat_view c.look_ahead.new.seat).notes in
    let seen : AreCellsFrom (length names) (IsAhead names cells notes) c.loop-x.x c.deref.result.now = rw c.deref.ensures.value c.look_ahead.ensures.ahead in
    let likely = c.leave_others.ensures.ahead cells notes seen in
    ahead_within names cells notes c.loop-x.x c.deref-in-loop-x.result.now (rw c.deref-in-loop-x.ensures.value likely)

pub bid_known-requires-clause-known : goal.bid_known-requires-clause-known
bid_known-requires-clause-known c =
    let names = c.args.names.now in
    let cells = c.args.pool.now.cells in
    let mid = seat_view c.loop-x.seat in
    let notes = (seat_view c.look_ahead.new.seat).notes in
    let so_far = c.loop-x.invariant in
    let seen : AreCellsFrom (length names) (IsAhead names cells notes) c.loop-x.x c.deref.result.now = rw c.deref.ensures.value c.look_ahead.ensures.ahead in
    let likely : AreCellsFrom (length names) (IsAhead names cells notes) c.loop-x.x c.deref-in-loop-x.result.now = rw c.deref-in-loop-x.ensures.value (c.leave_others.ensures.ahead cells notes seen) in
    let from : AreCellsFrom (length names) (IsAhead names cells notes) (c.first_of-first.result + length c.loop-x.known.items) c.deref-in-loop-x.result.now =
    subst (λ (k : ℕ). AreCellsFrom (length names) (IsAhead names cells notes) k c.deref-in-loop-x.result.now) (sym so_far.long.1) likely in
    rw c.deref-in-loop-x-2.ensures.value (c.keep_equal.ensures.ahead cells notes from (are_equal_on names cells mid.notes notes c.first_of-first.result c.loop-x.known.items c.look_ahead.ensures.bid.notes so_far.known))

pub bid_known-requires-clause-cells : goal.bid_known-requires-clause-cells
bid_known-requires-clause-cells c =
    are_placed_on c.args.names.now c.args.pool.now.cells (seat_view c.loop-x.seat).notes (seat_view c.look_ahead.new.seat).notes c.first_of-first.result c.loop-x.cells.items c.look_ahead.ensures.bid.notes c.loop-x.invariant.cells

pub loop-x-preserved : goal.loop-x-preserved
loop-x-preserved c =
    let names = c.args.names.now in
    let cells = c.args.pool.now.cells in
    let first = c.first_of-first.result in
    let old = seat_view c.args.seat.now in
    let mid = seat_view c.loop-x.seat in
    let looked = seat_view c.look_ahead.new.seat in
    let new = seat_view c.bid_known.new.seat in
    let so_far = c.loop-x.invariant in
    let x : ℕ = c.loop-x.x in
    let to : ℕ = x + c.min.result in
    let upto : to ≤ c.first_of-end.result = omega (arith, so_far.range.1, c.min.ensures) in
    let in_seen : length c.deref.result.now ≡ length c.look_ahead.new.seen.items = ap length c.deref.ensures.value in
    let in_likely : length c.deref-in-loop-x.result.now ≡ length c.leave_others.new.likely.items = ap length c.deref-in-loop-x.ensures.value in
    let in_known : length c.deref-in-loop-x-2.result.now ≡ length c.keep_equal.new.known.items = ap length c.deref-in-loop-x-2.ensures.value in
    let ends : first + length c.deref-in-loop-x-2.result.now ≡ to = omega (arith, in_seen, in_likely, in_known, c.look_ahead.ensures.len, c.leave_others.ensures.len, c.keep_equal.ensures.len, so_far.long.1) in
    let bid : HasBid names cells looked new (IsBetween x to) =
    subst (λ (k : ℕ). HasBid names cells looked new (IsBetween k to)) so_far.long.0 (subst (λ (k : ℕ). HasBid names cells looked new (IsBetween (first + length c.loop-x.cells.items) k)) ends c.bid_known.ensures.bid) in
    let all = between_looked names cells mid looked new x to c.look_ahead.ensures.bid bid in
    let seen : AreCellsFrom (length names) (IsAhead names cells looked.notes) x c.deref.result.now = rw c.deref.ensures.value c.look_ahead.ensures.ahead in
    let likely : AreCellsFrom (length names) (IsAhead names cells looked.notes) x c.deref-in-loop-x.result.now = rw c.deref-in-loop-x.ensures.value (c.leave_others.ensures.ahead cells looked.notes seen) in
    let from : AreCellsFrom (length names) (IsAhead names cells looked.notes) (first + length c.loop-x.known.items) c.deref-in-loop-x.result.now =
    subst (λ (k : ℕ). AreCellsFrom (length names) (IsAhead names cells looked.notes) k c.deref-in-loop-x.result.now) (sym so_far.long.1) likely in
    let known = c.keep_equal.ensures.ahead cells looked.notes from (are_equal_on names cells mid.notes looked.notes first c.loop-x.known.items c.look_ahead.ensures.bid.notes so_far.known) in
    record {
      belongs = c.bid_known.ensures.belongs;
      share = c.bid_known.ensures.share ∙ c.look_ahead.ensures.share ∙ so_far.share;
      bid = object_further names cells c.args.object first c.first_of-end.result old mid new x to c.first_of-first.ensures c.first_of-end.ensures so_far.range.0 (omega arith) upto so_far.bid all;
      range = (omega (arith, so_far.range.0), upto, so_far.range.2);
      long = (omega (arith, c.bid_known.ensures.len, ends), omega (arith, in_known, ends));
      room = (omega (arith, c.look_ahead.ensures.capacity, so_far.room.0), omega (arith, c.leave_others.ensures.capacity, so_far.room.1), omega (arith, c.keep_equal.ensures.capacity, so_far.room.2), omega (arith, c.bid_known.ensures.capacity, so_far.room.3));
      cells = c.bid_known.ensures.cells;
      known = are_equal_on names cells looked.notes new.notes first c.keep_equal.new.known.items bid.notes known;
    }

pub returns-clause-bid : goal.returns-clause-bid
returns-clause-bid c =
    object_done c.args.names.now c.args.pool.now.cells c.args.object c.first_of-first.result c.first_of-end.result (seat_view c.args.seat.now) c.first_of-first.ensures c.first_of-end.ensures
    (seat_view c.loop-x.seat) c.loop-x.x (omega arith) c.loop-x.invariant.bid

pub returns-clause-whole : goal.returns-clause-whole
returns-clause-whole c = λ x is.
    let own : ObjectCells = record { first = c.first_of-first.result; cells = c.loop-x.cells } in
    object_whole c.args.names.now c.args.pool.now.cells c.args.object c.first_of-first.result c.first_of-end.result (seat_view c.args.seat.now) c.first_of-first.ensures c.first_of-end.ensures
    own refl (omega (arith, c.loop-x.invariant.long.0)) x is
