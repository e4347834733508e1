use Rattle.std.proofs.Common.{◌≡◌, ◌∙◌, ◌+◌, ℕ, arith, get_or, length, subst}
use Rattle.std.proofs.lemmas.List.{length_push}
use Rattle.std.proofs.lemmas.Option.{slice_get-get_or}
use Rattle.odr_names.specs.Numbered.{SamePath}
use Rattle.name_bids.specs.Ahead.{IsAhead, IsEqualAhead}
use Rattle.name_bids.specs.Noting.{cell_in}
use Rattle.name_bids.proofs.NotedCells.{cells_more}
use Rattle.name_bids.proofs.SeenAhead.{known_more}
use Rattle.name_bids.proofs.ahead.keep_equal.Goals as goal

pub loop-i-preserved : goal.loop-i-preserved
loop-i-preserved c =
    let names = c.args.names.now in
    let so_far = c.loop-i.invariant in
    let x : ℕ = c.args.first + c.len.result + c.loop-i.i in
    let at : x ≡ c.args.first + length c.loop-i.known.items = omega (arith, so_far.long, c.len.ensures) in
    let here : c.args.first + length c.args.known.now.items + c.loop-i.i ≡ x = omega (arith, c.len.ensures) in
    record {
      long = rw c.push_reserved.ensures.items (omega (arith, so_far.long, length_push c.loop-i.known.items c.equal_name-word.result));
      capacity = c.push_reserved.ensures.capacity ∙ so_far.capacity;
      known = rw c.push_reserved.ensures.items (known_more names 0 c.args.first c.loop-i.known.items c.equal_name-word.result
          (λ name is. subst (λ (k : ℕ). SamePath names name k) at (c.equal_name-word.ensures.same name is)) so_far.known);
      ahead = λ cells notes likely before. rw c.push_reserved.ensures.items (cells_more (length names) (IsEqualAhead names cells notes) (IsEqualAhead names cells notes) c.args.first c.loop-i.known.items x c.equal_name-word.result
          (λ y name is. is) (omega (arith, at)) (omega (arith, at, so_far.long, c.requires.within.0))
          (c.equal_name-word.ensures.ahead cells notes (subst (λ (k : ℕ). IsAhead names cells notes k (cell_in (get_or c.args.likely.now c.loop-i.i 0))) here (likely.each c.loop-i.i _ (slice_get-get_or c.args.likely.now c.loop-i.i 0 (omega arith)))))
          (so_far.ahead cells notes likely before));
    }
