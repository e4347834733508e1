use Rattle.std.proofs.Common.{take}
use Rattle.dwarf_types.specs.Cells.{AreAsMany, item_of, ItemWithin}
use Rattle.dwarf_types.proofs.Growing.{Rows, item_column}
use Rattle.dwarf_types.proofs.sides.Sides.store_items.Given as goal

abbrev pub invariant-loop-k : goal.invariant-loop-k
invariant-loop-k l = AreAsMany l.fn.self l.self × Rows item_column item_of ItemWithin l.fn.self l.self (take l.k l.items)
