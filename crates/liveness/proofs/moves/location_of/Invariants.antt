use Rattle.std.proofs.Common.{◌≡◌, drop, slice_get}
use Rattle.std.specs.List.{filter_map}
use Rattle.dwarf_types.specs.Moves.{location_in}
use Rattle.liveness.proofs.moves.location_of.Given as goal

-- the first location from here on is the first of all
abbrev pub invariant-loop-j : goal.invariant-loop-j
invariant-loop-j l = slice_get (filter_map location_in (drop l.j l.entry.attrs)) 0 ≡ slice_get (filter_map location_in l.entry.attrs) 0
