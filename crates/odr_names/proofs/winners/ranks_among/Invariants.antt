use Rattle.std.proofs.Common.{◌≤◌, length}
use Rattle.odr_names.specs.Ranking.{AreRanksOf}
use Rattle.odr_names.proofs.winners.ranks_among.Given as goal

abbrev pub invariant-loop-i : goal.invariant-loop-i
invariant-loop-i l = (l.i ≤ length l.some) × AreRanksOf l.names l.some l.ranks.items l.i
