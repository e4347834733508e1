-- Items by rising keys, one of each key.
use Rattle.std.specs.Prelude.{ℕ, ◌==◌, List, [], ◌∷◌, nat_lt, if◌then◌else◌}

-- an item put where its key belongs, in place of one of that key
abbrev pub placed : {A : Type 0} → (A → ℕ) → A → List A → List A
placed key item [] = item ∷ []
placed key item (x ∷ xs) = if nat_lt (key item) (key x) then item ∷ x ∷ xs else if key item == key x then item ∷ xs else x ∷ placed key item xs

-- items by rising keys; of equal keys the first counts
abbrev pub in_order : {A : Type 0} → (A → ℕ) → List A → List A
in_order key [] = []
in_order key (x ∷ xs) = placed key x (in_order key xs)
