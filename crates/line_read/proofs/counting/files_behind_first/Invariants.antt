use Rattle.std.proofs.Common.{◌≡◌, ◌++◌, drop, take}
use Rattle.line_read.proofs.counting.files_behind_first.Given as goal

abbrev pub invariant-loop-i : goal.invariant-loop-i
invariant-loop-i l = l.all ++ drop l.i l.files ≡ take 1 l.files ++ l.files
