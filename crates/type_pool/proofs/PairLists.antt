-- Pairs in lists that are joined.
use Rattle.std.proofs.Common.{◌≡◌, ℕ, ◌+◌, ◌⊎◌, inl, inr, ⊎_elim, List, [], ◌∷◌, ◌++◌, arith}
use Rattle.type_pool.specs.Pairs.{Has, times}

pub has_left : (xs ys : List (ℕ × ℕ)) (a b : ℕ) → Has xs a b → Has (xs ++ ys) a b
has_left [] ys a b has = absurd has
has_left (x ∷ xs) ys a b has = ⊎_elim (λ here. inl here) (λ later. inr (has_left xs ys a b later)) has

pub has_right : (xs ys : List (ℕ × ℕ)) (a b : ℕ) → Has ys a b → Has (xs ++ ys) a b
has_right [] ys a b has = has
has_right (x ∷ xs) ys a b has = inr (has_right xs ys a b has)

pub has_either : (xs ys : List (ℕ × ℕ)) (a b : ℕ) → Has (xs ++ ys) a b → Has xs a b ⊎ Has ys a b
has_either [] ys a b has = inr has
has_either (x ∷ xs) ys a b has = ⊎_elim (λ here. inl (inl here)) (λ later. ⊎_elim (λ left. inl (inr left)) (λ right. inr right) (has_either xs ys a b later)) has

pub times-append : (a b : ℕ) (xs ys : List (ℕ × ℕ)) → times a b (xs ++ ys) ≡ times a b xs + times a b ys
times-append a b [] ys = omega arith
times-append a b (x ∷ xs) ys = let rest = times-append a b xs ys in omega arith
