-- Items by first use, each once.
use Rattle.std.specs.Prelude.{Bool, not, List, [], ◌∷◌}
use Rattle.std.specs.List.{filter}

-- each item once, where it stands first; the test says which items are one
abbrev pub once : {A : Type 0} → (A → A → Bool) → List A → List A
once same [] = []
once same (x ∷ xs) = x ∷ filter (λ y. not (same x y)) (once same xs)
