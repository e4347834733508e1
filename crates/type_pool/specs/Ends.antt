-- What a closed table is, and what is found in it.
use Rattle.std.specs.Prelude.{◌≡◌, ℕ, ◌<◌, List, length, replicate, slice_index, Option, None, Some}
use Rattle.pool_core.specs.declared.state.PoolState.{PoolState}
use Rattle.pool_core.specs.declared.state.Step.{Step}
use Rattle.pool_core.specs.Machine.{cells_run, IsLeast, least_run}
use Rattle.type_pool.specs.declared.closed.Found.{Found}
use Rattle.type_pool.specs.declared.view.View.{View}
use Rattle.type_pool.specs.Keeping.{bids_of, is_word_of, puts_of}
use Rattle.type_pool.specs.Pairs.{Has, times}
use Rattle.type_pool.specs.Standing.{IsIn, no_bid, StandsIn}

-- the words of the plain machine after a list of its steps, from empty cells: exactly what the view has put and bid, each once
pub record IsRun (cells : ℕ) (v : View) (state : PoolState) : Type 0 where
  pub steps : List Step
  pub names : state.cells ≡ cells_run (replicate cells 0) steps
  pub least : state.least ≡ least_run (replicate cells no_bid) steps
  pub puts : (cell name : ℕ) → times cell name (puts_of steps) ≡ times cell name v.puts
  pub bids : (cell number : ℕ) → times cell number (bids_of steps) ≡ times cell number v.bids

-- the table that was closed by a seat with this view
pub record Closes (cells : ℕ) (v : View) (state : PoolState) : Type 0 where
  pub cells_length : length state.cells ≡ cells
  pub least_length : length state.least ≡ cells
  pub run : IsRun cells v state
  -- all that the seat noted stands there
  pub noted : (cell name : ℕ) → Has v.notes cell name → (cell < cells) × IsIn state.cells cell name
  -- the filled cells with their names are what it put, each once
  pub puts : (cell name : ℕ) → times cell name v.puts ≡ is_word_of name (slice_index state.cells cell)
  -- each least word is the least of exactly the numbers that it bid there, or 2^64 - 1
  pub least : (cell : ℕ) → cell < cells → IsLeast no_bid (Has v.bids cell) (slice_index state.least cell)

-- where the name stands, with its least word; or it stands at no cell
abbrev pub Finds : (ℕ → ℕ → Type 0) → (ℕ → ℕ → ℕ) → PoolState → ℕ → Option Found → Type 0
Finds same start_of state x None = (cell : ℕ) → StandsIn same start_of state.cells x cell → ⊥
Finds same start_of state x (Some found) = StandsIn same start_of state.cells x found.cell × (found.least ≡ slice_index state.least found.cell)
