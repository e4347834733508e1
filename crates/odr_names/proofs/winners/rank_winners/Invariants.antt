use Rattle.odr_names.specs.Ranking.{AreFound, AreOthersKept}
use Rattle.odr_names.proofs.winners.rank_winners.Given as goal

abbrev pub invariant-loop-i : goal.invariant-loop-i
invariant-loop-i l = AreFound l.names l.ranks l.winners.items l.i × AreOthersKept l.ranks l.fn.winners.items l.winners.items
