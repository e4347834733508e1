use Rattle.std.proofs.Common.{◌≡◌, drop}
use Rattle.std.specs.List.{list_any}
use Rattle.expr_resolve.specs.Expressions.{op_changes}
use Rattle.expr_resolve.proofs.branches.has_changed.Given as goal

abbrev pub invariant-loop-k : goal.invariant-loop-k
invariant-loop-k l = list_any op_changes (drop l.k l.ops) ≡ list_any op_changes l.ops
