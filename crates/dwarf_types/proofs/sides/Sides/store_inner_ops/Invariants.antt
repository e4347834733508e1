use Rattle.std.proofs.Common.{◌≡◌, take}
use Rattle.dwarf_types.specs.Cells.{AreAsMany, inner_of, InnerWithin}
use Rattle.dwarf_types.proofs.Growing.{Rows, inner_column}
use Rattle.dwarf_types.proofs.sides.Sides.store_inner_ops.Given as goal

abbrev pub invariant-loop-k : goal.invariant-loop-k
invariant-loop-k l = AreAsMany l.fn.self l.self × (Rows inner_column inner_of InnerWithin l.fn.self l.self (take l.k l.ops) × ((l.self.ops ≡ l.fn.self.ops) × (l.self.items.items ≡ l.fn.self.items.items)))
