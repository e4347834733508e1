-- Which name wins a path: the one with the least bid.
use Rattle.std.specs.Prelude.{◌≡◌, ℕ, ◌<◌, ◌≤◌, List, length, slice_index_or}
use Rattle.std.specs.List.{Contains}
use Rattle.type_names.specs.Names.{Named}
use Rattle.odr_names.specs.Numbered.{SamePath, bid_at}

-- name w has the path of name x, and no name of that path has a lower bid
pub record IsWinner (names : List Named) (x w : ℕ) : Type 0 where
  pub within : w < length names
  pub same : SamePath names w x
  pub least : (y : ℕ) → y < length names → SamePath names y x → bid_at names w ≤ bid_at names y

-- of each name the winner of its path
pub record AreWinners (names : List Named) (winners : List ℕ) : Type 0 where
  pub len : length winners ≡ length names
  pub each : (x : ℕ) → x < length names → IsWinner names x (slice_index_or winners x 0)

-- all names of a path are among these, or none
abbrev pub AreWholePaths : List Named → List ℕ → Type 0
AreWholePaths names some = (x y : ℕ) → Contains some x → y < length names → SamePath names y x → Contains some y

-- of each of these names the winner of its path was put in its place, and no other place has changed
pub record ArePut (names : List Named) (some old new : List ℕ) : Type 0 where
  pub len : length new ≡ length old
  pub each : (x : ℕ) → Contains some x → IsWinner names x (slice_index_or new x 0)
  pub others : (x : ℕ) → (Contains some x → ⊥) → slice_index_or new x 0 ≡ slice_index_or old x 0
