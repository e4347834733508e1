use Rattle.std.proofs.Common.{◌≡◌, ◌+◌, drop}
use Rattle.std.specs.List.{position_or_len}
use Rattle.moved_parts.specs.Parts.{is_behind}
use Rattle.moved_parts.proofs.lines.count_before_end.Given as goal

-- the rows so far and those of the others stand before the end
abbrev pub invariant-loop-i : goal.invariant-loop-i
invariant-loop-i l = l.i + position_or_len (λ row. is_behind l.range row.at) (drop l.i l.rows) ≡ position_or_len (λ row. is_behind l.range row.at) l.rows
