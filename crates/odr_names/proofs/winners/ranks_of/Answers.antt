use Rattle.std.proofs.Common.{arith}
use Rattle.odr_names.proofs.Winning.{ranked_all, ranked_more, ranked_whole}
use Rattle.odr_names.proofs.winners.ranks_of.Goals as goal

pub loop-x-preserved : goal.loop-x-preserved
loop-x-preserved c = rw c.in_ok-push.ensures.items (ranked_more c.args.names.now c.loop-x.ranks.items c.loop-x.x _ c.loop-x.invariant c.rank_of.ensures.name c.rank_of.ensures.rank)

pub returns-clause-ranked : goal.returns-clause-ranked
returns-clause-ranked c = ranked_whole c.args.names.now c.loop-x.ranks.items c.loop-x.x c.loop-x.invariant (omega arith)

pub returns-clause-all : goal.returns-clause-all
returns-clause-all c = ranked_all c.args.names.now c.loop-x.ranks.items c.loop-x.x c.loop-x.invariant (omega arith)
