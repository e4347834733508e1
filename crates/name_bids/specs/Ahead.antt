-- What is seen of names before they are placed: which names stand where they are looked for first.
use Rattle.std.specs.Prelude.{ℕ, ◌<◌, ◌≤◌, List, length, Option, None, Some, ⊤}
use Rattle.odr_names.specs.Numbered.{SamePath}
use Rattle.type_names.specs.Names.{Named}
use Rattle.type_pool.specs.Pairs.{Has}
use Rattle.type_pool.specs.Standing.{probe}
use Rattle.name_bids.specs.Tables.{first_cell}

-- this name stands in the first cell that is probed for x, as the notes show, where one was seen there
abbrev pub IsAhead : List Named → ℕ → List (ℕ × ℕ) → ℕ → Option ℕ → Type 0
IsAhead names cells notes x None = ⊤
IsAhead names cells notes x (Some name) = (name < length names) × Has notes (probe (first_cell names x cells) cells 0) name

-- and it has the path of x
abbrev pub IsEqualAhead : List Named → ℕ → List (ℕ × ℕ) → ℕ → Option ℕ → Type 0
IsEqualAhead names cells notes x None = ⊤
IsEqualAhead names cells notes x (Some name) = IsAhead names cells notes x (Some name) × SamePath names name x

-- the names from one on and before another
abbrev pub IsBetween : ℕ → ℕ → ℕ → Type 0
IsBetween from to x = (from ≤ x) × (x < to)
