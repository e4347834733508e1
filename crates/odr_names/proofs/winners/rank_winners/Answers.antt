use Rattle.std.proofs.Common.{◌≡◌, Some, arith, slice_get, get_or}
use Rattle.std.proofs.lemmas.Option.{slice_get-get_or}
use Rattle.odr_names.specs.declared.winners.Ranked.{Ranked}
use Rattle.odr_names.proofs.Winning.{found_end, found_more, others_more}
use Rattle.odr_names.proofs.winners.rank_winners.Goals as goal

pub index_mut-requires : goal.index_mut-requires
index_mut-requires c =
    let d : Ranked = record { hash = 0; bid = 0; name = 0 } in
    let ranks = c.args.ranks.now in
    let at : slice_get ranks c.loop-i.i ≡ Some (get_or ranks c.loop-i.i d) = slice_get-get_or ranks c.loop-i.i d (omega arith) in
    omega (arith, (c.requires.ranked.each c.loop-i.i (get_or ranks c.loop-i.i d) at).within, c.loop-i.invariant.0.len)

pub loop-i-preserved : goal.loop-i-preserved
loop-i-preserved c =
    let d : Ranked = record { hash = 0; bid = 0; name = 0 } in
    let ranks = c.args.ranks.now in
    let at : slice_get ranks c.loop-i.i ≡ Some (get_or ranks c.loop-i.i d) = slice_get-get_or ranks c.loop-i.i d (omega arith) in (
      found_more c.args.names.now ranks c.loop-i.winners.items c.loop-i.i (get_or ranks c.loop-i.i d) c.winner_at-winner.result c.requires.ranked at (c.winner_at-winner.ensures (get_or ranks c.loop-i.i d) at) c.loop-i.invariant.0,
      others_more c.args.names.now ranks c.args.winners.now.items c.loop-i.winners.items c.loop-i.i (get_or ranks c.loop-i.i d) c.winner_at-winner.result at c.loop-i.invariant.1,
    )

pub returns-clause-found : goal.returns-clause-found
returns-clause-found c = found_end c.args.names.now c.args.ranks.now c.loop-i.winners.items c.loop-i.i (omega arith) c.loop-i.invariant.0
