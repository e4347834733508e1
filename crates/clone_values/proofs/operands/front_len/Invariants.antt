use Rattle.std.proofs.Common.{◌≡◌, ◌+◌, drop, length}
use Rattle.dwarf_types.specs.LinkedExpressions.{front_leb}
use Rattle.clone_values.proofs.operands.front_len.Given as goal

-- the number has no end so far
abbrev pub invariant-loop-i : goal.invariant-loop-i
invariant-loop-i l = l.i + length (front_leb (drop l.i l.bytes)) ≡ length (front_leb l.bytes)
