use Rattle.std.proofs.Common.{◌≡◌, ◌++◌, drop, is_some, map}
use Rattle.std.specs.List.{filter_map}
use Rattle.clone_units.specs.Pieces.{written_pair}
use Rattle.clone_units.proofs.ranges.written_pairs.Given as goal

-- the pieces so far and those that are left
abbrev pub invariant-loop-piece : goal.invariant-loop-piece
invariant-loop-piece l = l.pairs.items ++ filter_map (written_pair (map is_some l.plain)) (drop l.piece-index l.pieces) ≡ filter_map (written_pair (map is_some l.plain)) l.pieces
