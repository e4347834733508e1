use Rattle.std.proofs.Common.{take}
use Rattle.dwarf_types.specs.PlaceSteps.{IsTable}
use Rattle.dwarf_types.specs.Raw.{places_of}
use Rattle.dwarf_types.proofs.place_table.PlaceTable.of.Given as goal

abbrev pub invariant-loop-i : goal.invariant-loop-i
invariant-loop-i l = IsTable (take l.i (places_of l.entries)) l.before.items
