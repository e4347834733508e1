-- Names in the order in which their winners are found: those of one path stand together, and of these the lowest bid first.
use Rattle.std.specs.Prelude.{◌≡◌, ℕ, ◌<◌, ◌≤◌, false, List, length, slice_get, slice_index_or, Some}
use Rattle.std.specs.Ordering.{is_gt}
use Rattle.odr_names.specs.declared.winners.Ranked.{Ranked}
use Rattle.type_names.specs.Names.{Named}
use Rattle.odr_names.specs.Numbered.{SamePath, bid_at, path_at}
use Rattle.odr_names.specs.Innermost.{rank_hash}
use Rattle.odr_names.specs.PathOrder.{rank_order}
use Rattle.odr_names.specs.Winners.{IsWinner}

-- the rank of name x
pub record IsRank (names : List Named) (r : Ranked) : Type 0 where
  pub within : r.name < length names
  pub hash : r.hash ≡ rank_hash (path_at names r.name)
  pub bid : r.bid ≡ bid_at names r.name

-- a name of which there is a rank
abbrev pub IsAmong : List Ranked → ℕ → Type 0
IsAmong ranks x = (i : ℕ) × (r : Ranked) × (slice_get ranks i ≡ Some r) × (r.name ≡ x)

pub record AreRanked (names : List Named) (ranks : List Ranked) : Type 0 where
  pub each : (i : ℕ) (r : Ranked) → slice_get ranks i ≡ Some r → IsRank names r
  -- of a path all names are among them, or none
  pub whole : (x y : ℕ) → IsAmong ranks x → y < length names → SamePath names y x → IsAmong ranks y

-- none is behind a later one
abbrev pub AreInOrder : List Named → List Ranked → Type 0
AreInOrder names ranks = (i j : ℕ) (r s : Ranked) → i ≤ j → slice_get ranks i ≡ Some r → slice_get ranks j ≡ Some s → is_gt (rank_order names r s) ≡ false

-- the winners of the first i ranks are found
pub record AreFound (names : List Named) (ranks : List Ranked) (winners : List ℕ) (i : ℕ) : Type 0 where
  pub len : length winners ≡ length names
  pub each : (j : ℕ) (r : Ranked) → j < i → slice_get ranks j ≡ Some r → IsWinner names r.name (slice_index_or winners r.name 0)

-- the winners of names without a rank are as they were
abbrev pub AreOthersKept : List Ranked → List ℕ → List ℕ → Type 0
AreOthersKept ranks old new = (x : ℕ) → (IsAmong ranks x → ⊥) → slice_index_or new x 0 ≡ slice_index_or old x 0

-- the ranks of the first n names, each at its number
pub record AreRankedTo (names : List Named) (ranks : List Ranked) (n : ℕ) : Type 0 where
  pub len : length ranks ≡ n
  pub each : (i : ℕ) (r : Ranked) → slice_get ranks i ≡ Some r → (r.name ≡ i) × IsRank names r

-- the ranks of the first n of some names, in their order
pub record AreRanksOf (names : List Named) (some : List ℕ) (ranks : List Ranked) (n : ℕ) : Type 0 where
  pub len : length ranks ≡ n
  pub each : (i : ℕ) (r : Ranked) → slice_get ranks i ≡ Some r → (slice_get some i ≡ Some r.name) × IsRank names r
