use Rattle.std.proofs.Common.{◌≡◌, ◌==◌, drop, length, not}
use Rattle.std.specs.List.{list_any}
use Rattle.dwarf_types.specs.declared.expr.Op.{Op}
use Rattle.dwarf_types.specs.Moves.{op_fields}
use Rattle.liveness.proofs.moves.have_fields.Given as goal

abbrev pub invariant-loop-k : goal.invariant-loop-k
invariant-loop-k l = list_any (λ (op : Op). not (length (op_fields op) == 0)) (drop l.k l.ops) ≡ list_any (λ (op : Op). not (length (op_fields op) == 0)) l.ops
