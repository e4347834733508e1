-- A room whose bytes are written at a place.
use Rattle.std.specs.Prelude.{◌≡◌, ℕ, ◌+◌, List, ◌++◌, length, take, drop}

-- the room with these bytes from a place on, and every other byte as it was
abbrev pub put : List ℕ → ℕ → List ℕ → List ℕ
put room at bytes = take at room ++ (bytes ++ drop (at + length bytes) room)

-- what a writer of several items adds: in a room of the same length some bytes stand behind those before a place, up to the next; nothing is said of what stands behind them
pub record Adds (old : List ℕ) (at : ℕ) (bytes new : List ℕ) (next : ℕ) : Type 0 where
  pub size : length new ≡ length old
  pub written : take next new ≡ take at old ++ bytes
  pub behind : next ≡ at + length bytes
