use Rattle.std.proofs.Common.{◌≡◌, drop}
use Rattle.std.specs.List.{list_any}
use Rattle.expr_resolve.specs.Expressions.{is_branch}
use Rattle.expr_resolve.proofs.branches.has_plain_branch.Given as goal

abbrev pub invariant-loop-k : goal.invariant-loop-k
invariant-loop-k l = list_any (λ op. is_branch op.code) (drop l.k l.ops) ≡ list_any (λ op. is_branch op.code) l.ops
