use Rattle.std.proofs.Common.{◌≡◌, take}
use Rattle.dwarf_types.proofs.entry.copy_each.Given as goal

abbrev pub invariant-loop-unit : goal.invariant-loop-unit
invariant-loop-unit l = l.made ≡ take l.unit-index l.unit-items
