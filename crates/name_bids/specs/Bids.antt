-- What is bid for the names of a book at the cells of a shared table.
use Rattle.std.specs.Prelude.{◌≡◌, ℕ, ◌+◌, ◌<◌, ◌≤◌, ◌⊎◌, List, length}
use Rattle.odr_names.specs.Numbered.{SamePath, bid_at}
use Rattle.odr_names.specs.Stretches.{object_at}
use Rattle.type_names.specs.Names.{Named}
use Rattle.type_pool.specs.declared.view.View.{View}
use Rattle.type_pool.specs.Pairs.{Has}
use Rattle.type_pool.specs.Standing.{IsCrowded, StandsAt}
use Rattle.work_share.specs.Numbers.{times}
use Rattle.name_bids.specs.Tables.{first_cell}

-- the name stands at the cell, as the notes show
abbrev pub IsNotedAt : List Named → ℕ → List (ℕ × ℕ) → ℕ → ℕ → Type 0
IsNotedAt names cells notes x cell = StandsAt (SamePath names) (Has notes) (first_cell names x cells) cells x cell

-- it is crowded, as the notes show
abbrev pub IsNotedCrowded : List Named → ℕ → List (ℕ × ℕ) → ℕ → Type 0
IsNotedCrowded names cells notes x = IsCrowded (SamePath names) (Has notes) (first_cell names x cells) cells x

-- what a seat knows once it bid for exactly the names of which `For` is true
pub record HasBid (names : List Named) (cells : ℕ) (old new : View) (For : ℕ → Type 0) : Type 0 where
  -- the bid of each is at its cell, or it is crowded
  pub each : (x : ℕ) → For x → ((cell : ℕ) × IsNotedAt names cells new.notes x cell × Has new.bids cell (bid_at names x)) ⊎ IsNotedCrowded names cells new.notes x
  -- no other bid is new
  pub only : (cell number : ℕ) → Has new.bids cell number → Has old.bids cell number ⊎ ((x : ℕ) × For x × IsNotedAt names cells new.notes x cell × (number ≡ bid_at names x))
  -- a name was put into no cell but that at which it stands
  pub puts : (cell name : ℕ) → Has new.puts cell name → Has old.puts cell name ⊎ ((name < length names) × IsNotedAt names cells new.notes name cell)
  -- what was bid and noted stays
  pub bids : (cell number : ℕ) → Has old.bids cell number → Has new.bids cell number
  pub notes : (cell name : ℕ) → Has old.notes cell name → Has new.notes cell name

-- the names of one object
abbrev pub IsOfObject : List Named → ℕ → ℕ → Type 0
IsOfObject names object x = (x < length names) × (object_at names x ≡ object)

-- the names of the objects whose tasks were drawn: task i is object i + 1
abbrev pub IsOfTasks : List Named → List ℕ → ℕ → Type 0
IsOfTasks names drawn x = (i : ℕ) × (1 ≤ times i drawn) × IsOfObject names (i + 1) x
