use Rattle.std.proofs.Common.{◌≡◌, ◌+◌, take, drop, Ok}
use Rattle.std.specs.List.{sum_by}
use Rattle.ds_base.specs.Reading.{◌>>=◌}
use Rattle.expr_resolve.specs.Context.{names_in}
use Rattle.expr_resolve.specs.Expressions.{each_from, op_indexed, op_size}
use Rattle.expr_resolve.proofs.indices.try_indices.Given as goal

abbrev pub invariant-loop-k : goal.invariant-loop-k
invariant-loop-k l =
    ((each_from op_size (op_indexed (names_in l.names)) l.place (drop l.k l.ops) >>= λ _. Ok (tt {0})) ≡ (each_from op_size (op_indexed (names_in l.names)) l.first l.ops >>= λ _. Ok (tt {0})))
    × (l.place ≡ l.first + sum_by op_size (take l.k l.ops))
