use Rattle.std.proofs.Common.{◌≡◌, ◌++◌, drop}
use Rattle.addr_map.specs.Ranges.{cut, kept}
use Rattle.addr_map.proofs.ranges.cut_ranges.Given as goal

-- the cuts so far and those of the other ranges are the cuts of all
abbrev pub invariant-loop-i : goal.invariant-loop-i
invariant-loop-i l = l.cuts ++ kept (cut (drop l.i l.ranges)) ≡ kept (cut l.ranges)
