-- The uses of source files whose files were put.
use Rattle.std.specs.Prelude.{◌≡◌, ℕ, Bool, true, false, List, [], ◌∷◌, ◌++◌, map, length, replicate, slice_index_or, slice_set}
use Rattle.std.specs.Option.{option_map_or}
use Rattle.clone_units.specs.declared.noted_uses.FileUse.{FileUse}
use Rattle.clone_units.specs.Sourced.{file_of_use, with_named}
use Rattle.dwarf_types.specs.declared.analysis.Analysis.{Analysis}
use Rattle.dwarf_types.specs.declared.entry.InUnit.{InUnit}
use Rattle.link_graph.specs.PoolFiles.{SourceFile}

-- marks for the numbers of a unit's files, which are counted from 0 or from 1
abbrev pub marks_of_unit : InUnit → List Bool
marks_of_unit unit = option_map_or (λ lines. replicate (length lines.files) false ++ false ∷ []) unit.lines []

abbrev pub marks_of_object : Analysis → List (List Bool)
marks_of_object seen = map marks_of_unit seen.units

-- a number of a unit is marked
abbrev pub is_noted_in : List (List Bool) → ℕ → ℕ → Bool
is_noted_in rows unit number = slice_index_or (slice_index_or rows unit []) number false

-- a use is marked
abbrev pub is_noted : List (List (List Bool)) → FileUse → Bool
is_noted marks named = is_noted_in (slice_index_or marks named.object []) named.unit named.number

abbrev pub with_noted_in : List (List Bool) → ℕ → ℕ → List (List Bool)
with_noted_in rows unit number = slice_set rows unit (slice_set (slice_index_or rows unit []) number true)

abbrev pub with_noted : List (List (List Bool)) → FileUse → List (List (List Bool))
with_noted marks named = slice_set marks named.object (with_noted_in (slice_index_or marks named.object []) named.unit named.number)

-- of each use that is marked, putting its file once more, if there is one, leaves the files as they are
abbrev pub AreNoted : List Analysis → List (List (List Bool)) → List SourceFile → Type 0
AreNoted all marks files = (named : FileUse) → is_noted marks named ≡ true → with_named files (file_of_use all named) ≡ files
