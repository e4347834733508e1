use Rattle.std.proofs.Common.{length}
use Rattle.frame_table.specs.Order.{IsFirstMissed, is_missed}
use Rattle.frame_table.proofs.naming.first_missed.Given as goal

-- the one that is missed first, of those so far
abbrev pub invariant-loop-i : goal.invariant-loop-i
invariant-loop-i l = IsFirstMissed (is_missed l.size l.entries) (length l.entries) l.i l.first
