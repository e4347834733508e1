-- The places of entries by steps of so many bytes: of each step, how many of them lie before it.
use Rattle.std.specs.Prelude.{ℕ, ◌*◌, ◌<◌, ◌≤◌, List, length, slice_index_or}
use Rattle.std.specs.List.{AllPairs}
use Rattle.dwarf_types.specs.declared.place_table.TheConstants.{STEP}

-- the table of places has these counts, one a step
pub record IsTable (places before : List ℕ) : Type 0 where
  -- each lies behind those before it
  pub rise : AllPairs (λ p later. p < later) places
  -- all lie before the end of the steps
  pub low : (i : ℕ) → i < length places → slice_index_or places i 0 < STEP * length before
  -- those that are said to lie before a step do, and there are so many
  pub within : (b : ℕ) → b < length before → slice_index_or before b 0 ≤ length places
  pub steps : (b i : ℕ) → b < length before → i < slice_index_or before b 0 → slice_index_or places i 0 < STEP * b
