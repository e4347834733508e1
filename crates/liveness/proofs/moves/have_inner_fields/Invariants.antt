use Rattle.std.proofs.Common.{◌≡◌, drop, is_some}
use Rattle.std.specs.List.{list_any}
use Rattle.dwarf_types.specs.declared.expr.PlainOp.{PlainOp}
use Rattle.liveness.proofs.moves.have_inner_fields.Given as goal

abbrev pub invariant-loop-k : goal.invariant-loop-k
invariant-loop-k l = list_any (λ (plain : PlainOp). is_some plain.address) (drop l.k l.inner) ≡ list_any (λ (plain : PlainOp). is_some plain.address) l.inner
