use Rattle.std.proofs.Common.{◌≡◌, take}
use Rattle.dwarf_types.specs.Cells.{AreAsMany, op_of, OpWithin}
use Rattle.dwarf_types.proofs.Growing.{Rows, op_column}
use Rattle.dwarf_types.proofs.sides.Sides.store_ops.Given as goal

abbrev pub invariant-loop-k : goal.invariant-loop-k
invariant-loop-k l = AreAsMany l.fn.self l.self × (Rows op_column op_of OpWithin l.fn.self l.self (take l.k l.ops) × (l.self.items.items ≡ l.fn.self.items.items))
