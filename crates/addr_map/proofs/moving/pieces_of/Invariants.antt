use Rattle.std.proofs.Common.{◌≡◌, ◌++◌, drop}
use Rattle.std.specs.List.{filter_map}
use Rattle.addr_map.specs.Moved.{piece}
use Rattle.addr_map.proofs.moving.pieces_of.Given as goal

-- the pieces so far and those of the other ranges are the pieces of all
abbrev pub invariant-loop-range : goal.invariant-loop-range
invariant-loop-range l = l.pieces ++ filter_map (piece l.low l.high) (drop l.range-index l.ranges) ≡ filter_map (piece l.low l.high) l.ranges
