-- Where the names of a book were placed, as each worker notes it for the objects whose tasks it drew.
use Rattle.std.specs.Prelude.{◌≡◌, ℕ, ◌+◌, ◌-◌, ◌<◌, ◌≤◌, ◌==◌, if◌then◌else◌, List, length, map, slice_get, slice_index, Option, None, Some}
use Rattle.std.specs.List.{All, Contains}
use Rattle.type_names.specs.Names.{Named}
use Rattle.type_pool.specs.declared.placing.Placing.{Placing}
use Rattle.type_pool.specs.declared.placing.Placing.TheVariants.{Cell, Crowded}
use Rattle.name_bids.specs.declared.bidding.ObjectCells.{ObjectCells}
use Rattle.name_bids.specs.Bids.{IsNotedAt, IsNotedCrowded}

-- the cell at which a name was placed, if it is not crowded
abbrev pub cell_of : Placing → Option ℕ
cell_of (Cell cell) = Some cell
cell_of Crowded = None

-- it is noted as one more than its number, and 0 says that there is none
abbrev pub cell_in : ℕ → Option ℕ
cell_in word = if word == 0 then None else Some (word - 1)

abbrev pub cells_in : List ℕ → List (Option ℕ)
cells_in words = map cell_in words

-- the name stands at the cell, as a seat's notes show, or it is crowded
abbrev pub IsPlacedAt : List Named → ℕ → List (ℕ × ℕ) → ℕ → Option ℕ → Type 0
IsPlacedAt names cells notes x None = IsNotedCrowded names cells notes x
IsPlacedAt names cells notes x (Some cell) = IsNotedAt names cells notes x cell

-- the cells of names that stand one behind the other among so many, each one of which `Is` is true
pub record AreCellsFrom (size : ℕ) (Is : ℕ → Option ℕ → Type 0) (first : ℕ) (words : List ℕ) : Type 0 where
  pub within : first + length words ≤ size
  pub each : (i word : ℕ) → slice_get words i ≡ Some word → Is (first + i) (cell_in word)

abbrev pub AreCellsOf : ℕ → (ℕ → Option ℕ → Type 0) → ObjectCells → Type 0
AreCellsOf size Is own = AreCellsFrom size Is own.first own.cells.items

-- the names of an object are among so many
abbrev pub IsWithin : ℕ → ObjectCells → Type 0
IsWithin size own = own.first + length own.cells.items ≤ size

-- the name is one of those of an object
abbrev pub IsOneOf : ObjectCells → ℕ → Type 0
IsOneOf own x = (own.first ≤ x) × (x < own.first + length own.cells.items)

-- each cell that is noted is one of which `Is` is true, and each name of which `For` is true has one
pub record AreNoted (size : ℕ) (Is : ℕ → Option ℕ → Type 0) (noted : List ObjectCells) (For : ℕ → Type 0) : Type 0 where
  pub right : All (AreCellsOf size Is) noted
  pub each : (x : ℕ) → For x → (own : ObjectCells) × Contains noted own × IsOneOf own x

-- this is noted of the name
pub record IsNotedIn (noted : List ObjectCells) (x word : ℕ) : Type 0 where
  pub own : ObjectCells
  pub there : Contains noted own
  pub behind : own.first ≤ x
  pub cell : slice_get own.cells.items (x - own.first) ≡ Some word

-- the cells of so many names in their order: of each name of which something is noted, that
pub record AreJoined (size : ℕ) (noted : List ObjectCells) (words : List ℕ) : Type 0 where
  pub len : length words ≡ size
  pub each : (x : ℕ) (own : ObjectCells) → Contains noted own → IsOneOf own x → IsNotedIn noted x (slice_index words x)
