-- The words of a closed table, where the two of each cell stand side by side.
use Rattle.std.specs.Prelude.{◌≡◌, ℕ, ◌*◌, ◌^◌, ◌<◌, ◌≤◌, List, [], ◌∷◌, length}
use Rattle.pool_core.specs.declared.state.PoolState.{PoolState}
use Rattle.type_pool.specs.Words.{name_word}

-- what contracts see of a closed table: its words, its cells, and the size of its books
pub record ClosedTable : Type 0 where
  pub state : PoolState
  pub cells : ℕ
  pub names : ℕ

-- every second word from the first on, which are those of names
abbrev pub name_words : List ℕ → List ℕ
name_words [] = []
name_words (name ∷ []) = name ∷ []
name_words (name ∷ least ∷ words) = name ∷ name_words words

-- every second word from the second on, which are the least words
abbrev pub least_words : List ℕ → List ℕ
least_words [] = []
least_words (name ∷ []) = []
least_words (name ∷ least ∷ words) = least ∷ least_words words

-- both lists, which are the words of the plain machine
abbrev pub state_of : List ℕ → PoolState
state_of words = record { cells = name_words words; least = least_words words }

-- the words are those of so many cells, with names of a book of this size
pub record AreOfTable (cells names : ℕ) (words : List ℕ) : Type 0 where
  pub wide : length words ≡ 2 * cells
  pub ample : (64 ≤ cells) × (cells ≤ 2 ^ 24)
  pub small : names < 2 ^ 32
  pub named : (cell : ℕ) → cell < cells → name_word words cell ≤ names
