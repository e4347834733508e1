use Rattle.std.proofs.Common.{◌≡◌, ◌+◌, ◌++◌, drop, map, None, filter}
use Rattle.std.specs.List.{enumerate_from, find}
use Rattle.batch_list.specs.Lines.{is_filled, is_refused}
use Rattle.batch_list.specs.Listed.{line_seen}
use Rattle.batch_list.proofs.lines.programs_among.Given as goal

-- the programs so far, and the lines that are left, are the lines that are not empty; and none so far is refused
abbrev pub invariant-loop-i : goal.invariant-loop-i
invariant-loop-i l =
    (map line_seen l.programs ++ filter is_filled (enumerate_from (l.i + 1) (drop l.i (map (λ line. line.now) l.lines))) ≡ filter is_filled (enumerate_from 1 (map (λ line. line.now) l.lines)))
    × (find is_refused (map line_seen l.programs) ≡ None)
