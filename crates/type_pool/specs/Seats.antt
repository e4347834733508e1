-- What a seat knows, and which pool it belongs to.
use Rattle.std.specs.Prelude.{◌≡◌, ℕ, ◌≤◌, ◌⊎◌, List, ◌∷◌, Option, None, Some}
use Rattle.type_pool.specs.declared.view.View.{View}
use Rattle.type_pool.specs.declared.seat.PoolSeat.{PoolSeat}
use Rattle.type_pool.specs.declared.table.Pool.{Pool}
use Rattle.type_pool.specs.declared.placing.Placing.{Placing}
use Rattle.type_pool.specs.declared.placing.Placing.TheVariants.{Cell, Crowded}
use Rattle.type_pool.specs.Pairs.{Has}
use Rattle.type_pool.specs.Views.{given_half, kept_half}
use Rattle.type_pool.specs.Standing.{IsCrowded, StandsAt}

abbrev pub known : PoolSeat → View
known seat = seat.seat.me.0

-- the seat is one of this pool's
abbrev pub Belongs : Pool → PoolSeat → Type 0
Belongs pool seat = (seat.seat.table_id ≡ pool.table.shared.table_id) × ((known seat).cells ≡ pool.cells) × ((known seat).names ≡ pool.names)

-- a seat's share and its bids stay, and all that it noted it has noted still
pub record Learns (old new : View) : Type 0 where
  pub share : new.share ≡ old.share
  pub bids : new.bids ≡ old.bids
  pub notes : (cell name : ℕ) → Has old.notes cell name → Has new.notes cell name

-- what a seat's notes then show of the name
abbrev pub Placed : (ℕ → ℕ → Type 0) → List (ℕ × ℕ) → ℕ → ℕ → ℕ → Placing → Type 0
Placed same notes start cells x (Cell cell) = StandsAt same (Has notes) start cells x cell
Placed same notes start cells x Crowded = IsCrowded same (Has notes) start cells x

-- no name but x was put into a cell, at most once, and only into the cell that was answered
abbrev pub PutsAtMost : ℕ → Placing → List (ℕ × ℕ) → List (ℕ × ℕ) → Type 0
PutsAtMost x (Cell cell) old new = (new ≡ old) ⊎ (new ≡ (cell, x) ∷ old)
PutsAtMost x Crowded old new = new ≡ old

-- one seat is two; or its share is 1, and it is as it was
abbrev pub AreHalves : View → View → Option PoolSeat → Type 0
AreHalves old new None = (old.share ≡ 1) × (new ≡ old)
AreHalves old new (Some other) = (2 ≤ old.share) × (new ≡ kept_half old) × (known other ≡ given_half old)
