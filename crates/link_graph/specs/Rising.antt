-- Lists by their elements: what stands in them, and those that rise in a number.
use Rattle.std.specs.Prelude.{◌≡◌, ◌⊎◌, ℕ, ◌<◌, List, [], ◌∷◌}
use Rattle.std.specs.Bool.{⊤}

abbrev pub Has : {A : Type 0} → List A → A → Type 0
Has [] x = ⊥
Has (y ∷ ys) x = (y ≡ x) ⊎ Has ys x

abbrev pub Rises : {A : Type 0} → (A → ℕ) → List A → Type 0
Rises f [] = ⊤
Rises {A} f (x ∷ xs) = ((y : A) → Has xs y → f x < f y) × Rises f xs
