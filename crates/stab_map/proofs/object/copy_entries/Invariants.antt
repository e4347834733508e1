use Rattle.std.proofs.Common.{◌≡◌, take}
use Rattle.stab_map.proofs.object.copy_entries.Given as goal

abbrev pub invariant-loop-entry : goal.invariant-loop-entry
invariant-loop-entry l = l.made ≡ take l.entry-index l.entries
