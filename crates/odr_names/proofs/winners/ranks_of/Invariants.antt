use Rattle.odr_names.specs.Ranking.{AreRankedTo}
use Rattle.odr_names.proofs.winners.ranks_of.Given as goal

abbrev pub invariant-loop-x : goal.invariant-loop-x
invariant-loop-x l = AreRankedTo l.names l.ranks.items l.x
