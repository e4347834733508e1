use Rattle.std.proofs.Common.{◌≡◌, take}
use Rattle.expr_walk.specs.Length.{inner_len}
use Rattle.expr_walk.proofs.length.inner_length.Given as goal

abbrev pub invariant-loop-k : goal.invariant-loop-k
invariant-loop-k l = l.len ≡ inner_len (take l.k l.ops)
