use Rattle.std.proofs.Common.{ℕ, ◌<◌, length, get_or}
use Rattle.dwarf_types.specs.Raw.{places_of}
use Rattle.dwarf_types.proofs.place_table.find_from.Given as goal

abbrev pub invariant-loop-i : goal.invariant-loop-i
invariant-loop-i l = (k : ℕ) → k < l.i → k < length (places_of l.entries) → get_or (places_of l.entries) k 0 < l.place
