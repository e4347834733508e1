use Rattle.std.proofs.Common.{◌≡◌, ◌++◌, drop}
use Rattle.std.specs.List.{filter_map}
use Rattle.addr_map.specs.Entries.{given_of}
use Rattle.addr_map.proofs.ranges.all_given.Given as goal

-- what was given so far and what the other entries give is what all give
abbrev pub invariant-loop-entry : goal.invariant-loop-entry
invariant-loop-entry l = l.all.items ++ filter_map (given_of l.image) (drop l.entry-index l.entries) ≡ filter_map (given_of l.image) l.entries
