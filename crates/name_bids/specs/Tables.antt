-- The closed table of a book: where each name stands, and the least bid of each path.
use Rattle.std.specs.Prelude.{◌≡◌, ℕ, ◌*◌, ◌^◌, ◌<◌, ◌⊎◌, List, length, max, min, slice_index}
use Rattle.odr_names.specs.Numbered.{SamePath, bid_at, path_at}
use Rattle.odr_names.specs.Winners.{IsWinner}
use Rattle.pool_core.specs.declared.state.PoolState.{PoolState}
use Rattle.type_names.specs.Names.{Named}
use Rattle.type_names.specs.Start.{start_of}
use Rattle.type_pool.specs.Standing.{IsCrowdedIn, IsIn, StandsIn, no_bid}

-- how many cells a table has for so many names: twice as many, at least 64 and at most 2^24
abbrev pub cell_count : ℕ → ℕ
cell_count names = min (max (2 * names) 64) (2 ^ 24)

-- the cell at which the search for a name begins
abbrev pub first_cell : List Named → ℕ → ℕ → ℕ
first_cell names x cells = start_of (path_at names x) cells

-- the name stands at the cell of a closed table
abbrev pub IsAt : List Named → List ℕ → ℕ → ℕ → Type 0
IsAt names words x cell = StandsIn (SamePath names) (first_cell names) words x cell

-- it is crowded there
abbrev pub IsLeftOver : List Named → List ℕ → ℕ → Type 0
IsLeftOver names words x = IsCrowdedIn (SamePath names) (first_cell names) words x

-- the closed table in which all names of the book were bid for
pub record IsTable (names : List Named) (state : PoolState) : Type 0 where
  pub cells : length state.cells ≡ cell_count (length names)
  pub words : length state.least ≡ length state.cells
  -- a filled cell holds a name of the book
  pub filled : (cell x : ℕ) → IsIn state.cells cell x → x < length names
  -- each name stands at a cell, or is crowded
  pub each : (x : ℕ) → x < length names → ((cell : ℕ) × IsAt names state.cells x cell) ⊎ IsLeftOver names state.cells x
  -- the least word of a filled cell is the least bid of its path, that of an empty one is no bid
  pub least : (cell x : ℕ) → IsIn state.cells cell x → (w : ℕ) × IsWinner names x w × (slice_index state.least cell ≡ bid_at names w)
  pub empty : (cell : ℕ) → cell < length state.cells → slice_index state.cells cell ≡ 0 → slice_index state.least cell ≡ no_bid
