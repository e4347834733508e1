use Rattle.std.proofs.Common.{◌≡◌, ◌+◌, drop}
use Rattle.expr_walk.specs.Length.{front_leb_len}
use Rattle.expr_walk.proofs.length.leb_len.Given as goal

abbrev pub invariant-loop-i : goal.invariant-loop-i
invariant-loop-i l = l.i + front_leb_len (drop l.i l.bytes) ≡ front_leb_len l.bytes
