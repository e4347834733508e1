use Rattle.std.proofs.Common.{length}
use Rattle.batch_cache.specs.Shelves.{IsEnd}
use Rattle.batch_cache.proofs.shelf.make_room.Given as goal

-- the first ones have gone
abbrev pub invariant-loop-all : goal.invariant-loop-all
invariant-loop-all l = IsEnd l.fn.all.items l.all.items

abbrev pub decreases-loop-all : goal.decreases-loop-all
decreases-loop-all l = length l.all.items
