-- Rows of marks, one for each entry.
use Rattle.std.specs.Prelude.{◌≡◌, ℕ, ◌<◌, ◌≤◌, Bool, true, false, List, length, slice_set, if◌then◌else◌}
use Rattle.type_names.specs.Tree.{is_marked}

-- the row tells of each of the first i of n numbers whether it passes the test, and marks no other
pub record IsRowTo (test : ℕ → Bool) (n : ℕ) (row : List Bool) (i : ℕ) : Type 0 where
  pub len : length row ≡ n
  pub each : (k : ℕ) → k < i → is_marked row k ≡ test k
  pub none : (k : ℕ) → i ≤ k → is_marked row k ≡ false

-- the row tells of each of n numbers whether it passes the test
abbrev pub IsRow : (ℕ → Bool) → ℕ → List Bool → Type 0
IsRow test n row = IsRowTo test n row n

-- the row with place k marked, where there is cause
abbrev pub marked_if : List Bool → ℕ → Bool → List Bool
marked_if row k cause = if cause then slice_set row k true else row
