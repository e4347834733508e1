use Rattle.std.proofs.Common.{◌≡◌, arith, length, subst}
use Rattle.std.proofs.lemmas.Option.{slice_get-get_or}
use Rattle.odr_names.specs.Ranking.{AreRanksOf}
use Rattle.odr_names.proofs.Winning.{ranks_more}
use Rattle.odr_names.proofs.winners.ranks_among.Goals as goal

pub loop-i-preserved : goal.loop-i-preserved
loop-i-preserved c =
    (omega arith, rw c.in_ok-push.ensures.items (ranks_more c.args.names.now c.args.some.now c.loop-i.ranks.items c.loop-i.i _ _ (slice_get-get_or c.args.some.now c.loop-i.i 0 (omega arith)) c.rank_of.ensures.name c.rank_of.ensures.rank c.loop-i.invariant.1))

pub returns : goal.returns
returns c = subst (AreRanksOf c.args.names.now c.args.some.now c.loop-i.ranks.items) (let e : c.loop-i.i ≡ length c.args.some.now = omega (arith, c.loop-i.invariant.0) in e) c.loop-i.invariant.1
