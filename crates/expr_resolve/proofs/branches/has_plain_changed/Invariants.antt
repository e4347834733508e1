use Rattle.std.proofs.Common.{◌≡◌, drop}
use Rattle.std.specs.List.{list_any}
use Rattle.expr_resolve.specs.Expressions.{plain_changes}
use Rattle.expr_resolve.proofs.branches.has_plain_changed.Given as goal

abbrev pub invariant-loop-k : goal.invariant-loop-k
invariant-loop-k l = list_any plain_changes (drop l.k l.ops) ≡ list_any plain_changes l.ops
