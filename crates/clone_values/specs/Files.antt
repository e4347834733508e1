-- The numbers of source files in the line table of the output unit.
use Rattle.std.specs.Prelude.{ℕ, List, slice_get, Option, Some, None}
use Rattle.std.specs.Option.{option_and_then}
use Rattle.clone_values.specs.declared.files.Files.{Files}
use Rattle.clone_values.specs.declared.files.Files.TheVariants as files
use Rattle.dwarf_types.specs.LinkedValues.{FileNumbers}

-- the number that a file has in the output, by its number in the entry's own table
abbrev pub number_in : List (Option ℕ) → ℕ → Option ℕ
number_in numbers n = option_and_then (λ number. number) (slice_get numbers n)

abbrev pub numbers_of : Files → FileNumbers
numbers_of files.Own = None
numbers_of (files.Others numbers) = Some (number_in numbers.now)
