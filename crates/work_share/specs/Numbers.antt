-- Lists of numbers that were drawn.
use Rattle.std.specs.Prelude.{ℕ, ◌+◌, ◌-◌, max, cond, nat_eq, nat_lt, List, [], ◌∷◌}

-- how often x stands among the numbers
abbrev pub times : ℕ → List ℕ → ℕ
times x [] = 0
times x (y ∷ ys) = cond (nat_eq y x) 1 0 + times x ys

-- 1 where x is below n, else 0
abbrev pub once_below : ℕ → ℕ → ℕ
once_below x n = cond (nat_lt x n) 1 0

-- one more than the greatest of the numbers
abbrev pub above : List ℕ → ℕ
above [] = 0
above (x ∷ xs) = max (x + 1) (above xs)

-- how many numbers below the count are greater than all of these
abbrev pub left : ℕ → List ℕ → ℕ
left count xs = count - above xs
