use Rattle.std.proofs.Common.{◌≡◌, ◌++◌, take}
use Rattle.moved_parts.proofs.spans.add_pieces.Given as goal

-- the pieces so far
abbrev pub invariant-loop-piece : goal.invariant-loop-piece
invariant-loop-piece l = l.moved ≡ l.initial.moved ++ take l.piece-index l.piece-items
