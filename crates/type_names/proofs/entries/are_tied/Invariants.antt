use Rattle.std.proofs.Common.{◌≡◌, drop}
use Rattle.std.specs.List.{list_any}
use Rattle.type_names.specs.Entries.{op_is_tied}
use Rattle.type_names.proofs.entries.are_tied.Given as goal

abbrev pub invariant-loop-k : goal.invariant-loop-k
invariant-loop-k l = list_any op_is_tied (drop l.k l.ops) ≡ list_any op_is_tied l.ops
