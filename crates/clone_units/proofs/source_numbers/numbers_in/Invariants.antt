use Rattle.std.proofs.Common.{◌≡◌, ◌++◌, drop, map}
use Rattle.clone_units.specs.Sourced.{files_seen, numbers_of_unit}
use Rattle.clone_units.proofs.source_numbers.numbers_in.Given as goal

-- the rows so far and those that are left
abbrev pub invariant-loop-unit : goal.invariant-loop-unit
invariant-loop-unit l = l.rows ++ map (numbers_of_unit (files_seen l.files) l.seen) (drop l.unit-index l.unit-items) ≡ map (numbers_of_unit (files_seen l.files) l.seen) l.unit-items
