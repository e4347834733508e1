-- How the winners of a book are read from its closed table.
use Rattle.std.specs.Prelude.{◌≡◌, ℕ, ◌+◌, ◌<◌, ◌↔◌, List, length, slice_get, slice_index, Option, None, Some}
use Rattle.std.specs.List.{Contains}
use Rattle.std.specs.Option.{option_map_or}
use Rattle.odr_names.specs.Numbered.{bid_at}
use Rattle.type_names.specs.Names.{Named}
use Rattle.name_bids.specs.Tables.{IsAt}

-- the cell of a name, or it stands at none
abbrev pub IsCellOf : List Named → List ℕ → ℕ → Option ℕ → Type 0
IsCellOf names words x None = (cell : ℕ) → IsAt names words x cell → ⊥
IsCellOf names words x (Some cell) = IsAt names words x cell

-- those of all names
pub record AreCells (names : List Named) (words : List ℕ) (cells : List (Option ℕ)) : Type 0 where
  pub len : length cells ≡ length names
  pub each : (x : ℕ) (cell : Option ℕ) → slice_get cells x ≡ Some cell → IsCellOf names words x cell

-- a name that stands at a cell and bid its least word
pub record HasLeast (names : List Named) (least : List ℕ) (cells : List (Option ℕ)) (cell w : ℕ) : Type 0 where
  pub within : w < length names
  pub at : slice_get cells w ≡ Some (Some cell)
  pub bid : slice_index least cell ≡ bid_at names w

-- where one of the first n names stands at the cell and bid its least word, w is such a name
abbrev pub IsLeastAt : List Named → List ℕ → List (Option ℕ) → ℕ → ℕ → ℕ → Type 0
IsLeastAt names least cells n cell w = (x : ℕ) → x < n → slice_get cells x ≡ Some (Some cell) → slice_index least cell ≡ bid_at names x → HasLeast names least cells cell w

-- of each cell from the one at `start` on, one behind the other
abbrev pub AreLeastFrom : List Named → List ℕ → List (Option ℕ) → ℕ → ℕ → List ℕ → Type 0
AreLeastFrom names least cells n start part = (k : ℕ) → k < length part → IsLeastAt names least cells n (start + k) (slice_index part k)

-- of each cell at which a name bid the least word, such a name
pub record AreLeast (names : List Named) (least : List ℕ) (cells : List (Option ℕ)) (winners : List ℕ) : Type 0 where
  pub len : length winners ≡ length least
  pub each : AreLeastFrom names least cells (length names) 0 winners

-- cells are cells of the table
abbrev pub AreInside : List ℕ → List (Option ℕ) → Type 0
AreInside words cells = (x cell : ℕ) → slice_get cells x ≡ Some (Some cell) → cell < length words

-- the winner of a name at its cell
abbrev pub winner_at : List ℕ → Option ℕ → ℕ
winner_at winners cell = option_map_or (λ c. slice_index winners c) cell 0

-- of the first n names these are crowded
abbrev pub AreCrowdedTo : List (Option ℕ) → List ℕ → ℕ → Type 0
AreCrowdedTo cells crowded n = (x : ℕ) → Contains crowded x ↔ ((x < n) × (slice_get cells x ≡ Some None))
