use Rattle.std.proofs.Common.{◌≡◌, drop}
use Rattle.std.specs.List.{list_any}
use Rattle.type_names.specs.Entries.{inner_is_tied}
use Rattle.type_names.proofs.entries.are_inner_tied.Given as goal

abbrev pub invariant-loop-k : goal.invariant-loop-k
invariant-loop-k l = list_any inner_is_tied (drop l.k l.inner) ≡ list_any inner_is_tied l.inner
