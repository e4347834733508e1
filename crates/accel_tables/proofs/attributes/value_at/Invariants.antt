use Rattle.std.proofs.Common.{◌≡◌, ◌==◌, drop}
use Rattle.std.specs.List.{find}
use Rattle.std.specs.Option.{option_map}
use Rattle.accel_tables.specs.EnteredNames.{value_of}
use Rattle.accel_tables.proofs.attributes.value_at.Given as goal

abbrev pub invariant-loop-attr : goal.invariant-loop-attr
invariant-loop-attr l = option_map (λ a. a.value) (find (λ a. a.name == l.at) (drop l.attr-index l.attr-items)) ≡ value_of l.at l.node
