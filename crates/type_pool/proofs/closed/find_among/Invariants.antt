use Rattle.std.proofs.Common.{length}
use Rattle.type_pool.specs.ClosedWords.{name_words}
use Rattle.type_pool.specs.Standing.{IsIn, OthersStand}
use Rattle.type_pool.proofs.closed.find_among.Given as goal

-- other names stand in all cells that were probed
abbrev pub invariant-loop-turn : goal.invariant-loop-turn
invariant-loop-turn g l = OthersStand (g.N.NameBook.same l.names) (IsIn (name_words l.words)) (g.N.NameBook.start_of l.names l.x (length (name_words l.words))) (length (name_words l.words)) l.x l.turn
