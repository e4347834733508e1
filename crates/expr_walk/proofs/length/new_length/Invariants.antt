use Rattle.std.proofs.Common.{◌≡◌, take}
use Rattle.expr_walk.specs.Length.{ops_len}
use Rattle.expr_walk.proofs.length.new_length.Given as goal

abbrev pub invariant-loop-k : goal.invariant-loop-k
invariant-loop-k l = l.len ≡ ops_len (take l.k l.ops)
