-- Lists of pairs: whether a pair is in the list, and how often.
use Rattle.std.specs.Prelude.{◌≡◌, ℕ, ◌+◌, ◌==◌, ◌&&◌, ◌⊎◌, List, [], ◌∷◌, if◌then◌else◌}

-- the pair of a and b is in the list
abbrev pub Has : List (ℕ × ℕ) → ℕ → ℕ → Type 0
Has [] a b = ⊥
Has (pair ∷ pairs) a b = ((pair.0 ≡ a) × (pair.1 ≡ b)) ⊎ Has pairs a b

-- how often it is
abbrev pub times : ℕ → ℕ → List (ℕ × ℕ) → ℕ
times a b [] = 0
times a b (pair ∷ pairs) = (if (pair.0 == a) && (pair.1 == b) then 1 else 0) + times a b pairs

-- no cell has two names
abbrev pub HasOneEach : List (ℕ × ℕ) → Type 0
HasOneEach pairs = (cell a b : ℕ) → Has pairs cell a → Has pairs cell b → a ≡ b
