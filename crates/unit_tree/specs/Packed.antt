-- A reference as it is kept until all entries are known. No meaning is said here.
use Rattle.std.specs.Prelude.{ℕ, ◌==◌, Option, Some, None, if◌then◌else◌}
use Rattle.unit_tree.specs.declared.packed.TheConstants.{ANY_UNIT}

-- the unit that a number stands for, if it can't be any
abbrev pub unit_of : ℕ → Option ℕ
unit_of n = if n == ANY_UNIT then None else Some n
