-- What steps do to the words of a pool: names are put into empty cells, and least words are lowered.
use Rattle.std.specs.Prelude.{◌≡◌, ◌≢◌, ℕ, ◌+◌, ◌<◌, ◌≤◌, ◌==◌, ◌⊎◌, ◌↔◌, List, [], ◌∷◌, length, min, if◌then◌else◌, slice_index, slice_set}
use Rattle.std.specs.List.{Contains}
use Rattle.pool_core.specs.declared.state.Step.{Step}
use Rattle.pool_core.specs.declared.state.Step.TheVariants.{Intern, Lower}

-- the word of a cell once the name was brought to it: an empty cell takes the name, and a filled one keeps its own
abbrev pub put_in : ℕ → ℕ → ℕ
put_in word name = if word == 0 then name + 1 else word

-- the cells after a step
abbrev pub cells_after : List ℕ → Step → List ℕ
cells_after cells (Intern seat cell name) = slice_set cells cell (put_in (slice_index cells cell) name)
cells_after cells (Lower seat cell number) = cells

-- the least words after a step
abbrev pub least_after : List ℕ → Step → List ℕ
least_after least (Intern seat cell name) = least
least_after least (Lower seat cell number) = slice_set least cell (min (slice_index least cell) number)

-- the cells after a list of steps
abbrev pub cells_run : List ℕ → List Step → List ℕ
cells_run cells [] = cells
cells_run cells (next ∷ steps) = cells_run (cells_after cells next) steps

-- the least words after a list of steps
abbrev pub least_run : List ℕ → List Step → List ℕ
least_run least [] = least
least_run least (next ∷ steps) = least_run (least_after least next) steps

-- the names that the steps bring to the cell c, in order
abbrev pub interned : ℕ → List Step → List ℕ
interned c [] = []
interned c (Intern seat cell name ∷ steps) = if cell == c then name ∷ interned c steps else interned c steps
interned c (Lower seat cell number ∷ steps) = interned c steps

-- the numbers that the steps bring to the cell c, in order
abbrev pub lowered : ℕ → List Step → List ℕ
lowered c [] = []
lowered c (Intern seat cell name ∷ steps) = lowered c steps
lowered c (Lower seat cell number ∷ steps) = if cell == c then number ∷ lowered c steps else lowered c steps

-- the word of a cell that was empty: the first name, where one came
abbrev pub first_word : List ℕ → ℕ
first_word [] = 0
first_word (name ∷ names) = name + 1

-- n is the minimum of the word before and of all numbers that were made
pub record IsLeast (before : ℕ) (Made : ℕ → Type 0) (n : ℕ) : Type 0 where
  pub below : n ≤ before
  pub each : (x : ℕ) → Made x → n ≤ x
  pub one : (n ≡ before) ⊎ Made n

-- what a run of the steps makes of one cell and of its least word
pub record FillsAndLowers (cells least : List ℕ) (steps : List Step) (c : ℕ) : Type 0 where
  -- a filled cell stays as it was, and an empty one gets the first name that is brought to it
  pub kept : slice_index cells c ≢ 0 → slice_index (cells_run cells steps) c ≡ slice_index cells c
  pub first : slice_index cells c ≡ 0 → slice_index (cells_run cells steps) c ≡ first_word (interned c steps)
  -- the least word is the minimum of the word before and of all numbers that are brought to the cell
  pub lowered : IsLeast (slice_index least c) (Contains (lowered c steps)) (slice_index (least_run least steps) c)

-- so it is at each cell, whatever the words and the steps
abbrev pub RunsFillAndLower : Type 0
RunsFillAndLower = (cells least : List ℕ) (steps : List Step) (c : ℕ) → c < length cells → c < length least → FillsAndLowers cells least steps c

-- two lists of steps bring the same numbers to the cell c
abbrev pub SameNumbers : ℕ → List Step → List Step → Type 0
SameNumbers c a b = (x : ℕ) → Contains (lowered c a) x ↔ Contains (lowered c b) x

-- two lists that bring the same numbers to a cell make one least word of it, whatever their order
abbrev pub OrderDoesNotMatter : Type 0
OrderDoesNotMatter = (least : List ℕ) (a b : List Step) (c : ℕ) → c < length least → SameNumbers c a b → slice_index (least_run least a) c ≡ slice_index (least_run least b) c
