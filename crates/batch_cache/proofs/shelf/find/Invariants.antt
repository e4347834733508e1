use Rattle.batch_cache.specs.Shelves.{asked_key}
use Rattle.batch_cache.proofs.Apart.{AreOthers}
use Rattle.batch_cache.proofs.shelf.find.Given as goal

-- none so far is what is asked
abbrev pub invariant-loop-kept : goal.invariant-loop-kept
invariant-loop-kept l = AreOthers (asked_key l.asked) l.all l.kept-index
