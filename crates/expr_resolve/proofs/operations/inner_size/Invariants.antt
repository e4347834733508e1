use Rattle.std.proofs.Common.{◌≡◌, take}
use Rattle.std.specs.List.{sum_by}
use Rattle.expr_resolve.specs.Expressions.{plain_size}
use Rattle.expr_resolve.proofs.operations.inner_size.Given as goal

abbrev pub invariant-loop-k : goal.invariant-loop-k
invariant-loop-k l = l.size ≡ sum_by plain_size (take l.k l.ops)
