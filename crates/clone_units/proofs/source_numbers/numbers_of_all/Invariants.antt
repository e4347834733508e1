use Rattle.std.proofs.Common.{◌≡◌, ◌++◌, drop, map}
use Rattle.clone_units.specs.Sourced.{files_seen, numbers_in}
use Rattle.clone_units.proofs.source_numbers.numbers_of_all.Given as goal

-- the rows so far and those that are left
abbrev pub invariant-loop-object : goal.invariant-loop-object
invariant-loop-object l = l.rows ++ map (numbers_in (files_seen l.files)) (drop l.object-index l.seen) ≡ map (numbers_in (files_seen l.files)) l.seen
