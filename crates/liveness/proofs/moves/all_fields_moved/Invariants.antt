use Rattle.std.proofs.Common.{◌≡◌, drop, is_some}
use Rattle.std.specs.List.{list_all}
use Rattle.dwarf_types.specs.declared.address.Place.{Place}
use Rattle.dwarf_types.specs.declared.expr.Op.{Op}
use Rattle.dwarf_types.specs.Moves.{op_fields}
use Rattle.liveness.proofs.moves.all_fields_moved.Given as goal

abbrev pub invariant-loop-k : goal.invariant-loop-k
invariant-loop-k l = list_all (λ (op : Op). list_all (λ (place : Place). is_some place.linked) (op_fields op)) (drop l.k l.ops) ≡ list_all (λ (op : Op). list_all (λ (place : Place). is_some place.linked) (op_fields op)) l.ops
