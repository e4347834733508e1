use Rattle.std.proofs.Common.{◌≡◌, drop, is_some}
use Rattle.std.specs.List.{list_all}
use Rattle.std.specs.Option.{option_to_list}
use Rattle.dwarf_types.specs.declared.address.Place.{Place}
use Rattle.dwarf_types.specs.declared.expr.PlainOp.{PlainOp}
use Rattle.liveness.proofs.moves.inner_fields_moved.Given as goal

abbrev pub invariant-loop-k : goal.invariant-loop-k
invariant-loop-k l =
    list_all (λ (plain : PlainOp). list_all (λ (place : Place). is_some place.linked) (option_to_list plain.address)) (drop l.k l.inner) ≡ list_all (λ (plain : PlainOp). list_all (λ (place : Place). is_some place.linked) (option_to_list plain.address)) l.inner
